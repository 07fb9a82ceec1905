use Rattle.kt_kat.proofs.laws.files_of_streams_are_one_stream.Goals as goal
use Rattle.kt_kat.specs.StreamsJoined.{cdfs_join, ground_up_joins, kat_joins, losses_join, summaries_join}
use Rattle.kt_stream.specs.Bins.{IsCdf, cdf_form, cdf_shape}
use Rattle.kt_stream.specs.Losses.{IsLoss, loss_form, loss_shape}
use Rattle.kt_stream.specs.Summary.{IsSummary, summary_form, summary_shape}
use Rattle.kt_stream.specs.declared.kind.StreamKind.TheVariants.{Gul, Loss}

pub returns-clause-distributions : goal.returns-clause-distributions
returns-clause-distributions c = λ head. kat_joins cdf_form (λ shape samples entry. IsCdf shape.bins entry) (cdf_shape 1000) head c.what_is_spelled_is_read.ensures (cdfs_join head)

pub returns-clause-ground_up : goal.returns-clause-ground_up
returns-clause-ground_up c = λ head. kat_joins loss_form (λ shape samples entry. IsLoss samples entry) (loss_shape Gul) head c.what_is_spelled_is_read-2.ensures (ground_up_joins head)

pub returns-clause-losses : goal.returns-clause-losses
returns-clause-losses c = λ head. kat_joins loss_form (λ shape samples entry. IsLoss samples entry) (loss_shape Loss) head c.what_is_spelled_is_read-2.ensures (losses_join head)

pub returns-clause-summaries : goal.returns-clause-summaries
returns-clause-summaries c = λ head. kat_joins summary_form (λ shape samples entry. IsSummary samples entry) summary_shape head c.what_is_spelled_is_read-3.ensures (summaries_join head)
