use Rattle.std.proofs.Common.{List, length, subst, sym, ◌∙◌}
use Rattle.kt_stream.specs.declared.entry.Cdf.{Cdf}
use Rattle.kt_gul.specs.StruckItems.{AreCdfs}
use Rattle.kt_gul.proofs.event.put_ground_up.Goals as goal

pub put_held-requires-clause-cdfs : goal.put_held-requires-clause-cdfs
put_held-requires-clause-cdfs g c = subst (λ (cdfs : List Cdf). AreCdfs (length c.args.portfolio.now.rows.damage_bin_dict) cdfs) (sym (c.deref.ensures.value ∙ c.in_ok-cdfs.ensures.value)) c.requires.cdfs

pub returns-clause-ok : goal.returns-clause-ok
returns-clause-ok g c = rw (c.deref.ensures.value ∙ c.in_ok-cdfs.ensures.value) at c.put_held.ensures.ok

pub returns-clause-unchanged : goal.returns-clause-unchanged
returns-clause-unchanged g c = c.put_held.ensures.unchanged
