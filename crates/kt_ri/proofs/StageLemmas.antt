-- What is left behind stages, stage by stage.
use Rattle.std.proofs.Common.{◌≡◌, ℕ, Bool, true, zero, suc, ◌+◌, ◌<◌, ◌≤◌, List, [], ◌∷◌, length, map, take, drop, ◌-◌, slice_index_or, refl, sym, subst, ap, ◌∙◌, arith}
use Rattle.std.specs.Prelude.{All}
use Rattle.std.proofs.lemmas.List.{take_rest}
use Rattle.kt_rec.specs.Rising.{IsRising}
use Rattle.kt_stream.specs.declared.entry.LossRecord.{LossRecord}
use Rattle.kt_stream.specs.Losses.{IsLoss}
use Rattle.kt_runs.specs.RunLosses.{AreWithin}
use Rattle.kt_fmtree.specs.Tree.{Tree}
use Rattle.kt_structure.specs.declared.structure.Structure.{Structure}
use Rattle.kt_ri.specs.Reinsurance.{net_records, reinsured}
use Rattle.kt_ri.specs.Stages.{AreStages, HasStage, IsStage}
use Rattle.kt_ri.proofs.NetLemmas.{net-event, net-good, net-known, net-rises, net-within}

-- the stages behind so many leave of these losses what all leave of the records
pub record IsLeft (samples : ℕ) (records : List LossRecord) (stages : List Structure) (stage : ℕ) (net : List LossRecord) : Type 0 where
  pub left : (trees : List Tree) → AreStages trees stages → reinsured (drop stage trees) samples net ≡ reinsured trees samples records
  pub good : All (IsLoss samples) net
  pub within : AreWithin net

-- net losses are records of a stream, and keep the limit of a run
pub net-stream : (stage : Structure) → HasStage stage → (rule samples : ℕ) (records : List LossRecord) → All (IsLoss samples) records → AreWithin records → (net : List LossRecord) → ((tree : Tree) → IsStage tree stage → net ≡ net_records tree rule samples records) → All (IsLoss samples) net × AreWithin net
net-stream stage has rule samples records are within net is =
    let same = is has.tree has.is in
    (subst (λ (net : List LossRecord). All (IsLoss samples) net) (sym same) (net-good has.tree rule samples records are within), subst AreWithin (sym same) (net-within has.tree rule samples records within))

-- one more stage
pub left-more : (samples : ℕ) (stages : List Structure) (stage : ℕ) (d : Structure) (net later : List LossRecord) → stage < length stages → ((tree : Tree) → IsStage tree (slice_index_or stages stage d) → later ≡ net_records tree 2 samples net) → (trees : List Tree) → AreStages trees stages → reinsured (drop (stage + 1) trees) samples later ≡ reinsured (drop stage trees) samples net
left-more samples stages stage d net later below is trees are = from stages stage below is trees are
  where
    from : (stages : List Structure) (stage : ℕ) → stage < length stages → ((tree : Tree) → IsStage tree (slice_index_or stages stage d) → later ≡ net_records tree 2 samples net) → (trees : List Tree) → AreStages trees stages → reinsured (drop (stage + 1) trees) samples later ≡ reinsured (drop stage trees) samples net
    from [] stage below is trees are = absurd (omega arith)
    from (one ∷ stages) stage below is [] are = absurd are
    from (one ∷ stages) zero below is (tree ∷ trees) are = ap (reinsured trees samples) (is tree are.0)
    from (one ∷ stages) (suc stage) below is (tree ∷ trees) are =
        let next : suc stage + 1 ≡ suc (stage + 1) = omega arith in
        ap (λ n. reinsured (drop n (tree ∷ trees)) samples later) next ∙ from stages stage (omega arith) is trees are.1

-- behind all of them
pub left-all : (samples : ℕ) (stages : List Structure) (stage : ℕ) (net : List LossRecord) (trees : List Tree) → AreStages trees stages → length stages ≤ stage → reinsured (drop stage trees) samples net ≡ net
left-all samples stages stage net trees are past = ap (λ rest. reinsured rest samples net) (none trees stages stage are past)
  where
    none : (trees : List Tree) (stages : List Structure) (stage : ℕ) → AreStages trees stages → length stages ≤ stage → drop stage trees ≡ []
    none [] [] zero are past = refl
    none [] [] (suc stage) are past = refl
    none (tree ∷ trees) [] stage are past = absurd are
    none [] (one ∷ stages) stage are past = absurd are
    none (tree ∷ trees) (one ∷ stages) zero are past = absurd (omega arith)
    none (tree ∷ trees) (one ∷ stages) (suc stage) are past = none trees stages stage are.1 (omega arith)

-- ---- the first stage, and those behind it

-- what holds of stages holds of those behind the first
pub later-each : (P : Structure → Type 0) (stages : List Structure) → 1 ≤ length stages → All P stages → All P (take (length stages - 1) (drop 1 stages))
later-each P [] some all = absurd (omega arith)
later-each P (one ∷ later) some all = subst (All P) (sym (take_rest (one ∷ later) 1)) (λ k d inside. all (suc k) d (omega arith))

-- what they leave of what the first leaves is what all leave
pub first-left : (samples : ℕ) (stages : List Structure) (d : Structure) (records made net : List LossRecord) → 1 ≤ length stages → ((tree : Tree) → IsStage tree (slice_index_or stages 0 d) → made ≡ net_records tree 2 samples records) → ((trees : List Tree) → AreStages trees (take (length stages - 1) (drop 1 stages)) → net ≡ reinsured trees samples made) → (trees : List Tree) → AreStages trees stages → net ≡ reinsured trees samples records
first-left samples [] d records made net some first rest trees are = absurd (omega arith)
first-left samples (one ∷ later) d records made net some first rest [] are = absurd are
first-left samples (one ∷ later) d records made net some first rest (tree ∷ trees) are =
    rest trees (subst (AreStages trees) (sym (take_rest (one ∷ later) 1)) are.1) ∙ ap (reinsured trees samples) (first tree are.0)

-- ---- what each stage keeps, all of them keep

-- the limit of a run
pub reinsured-within : (trees : List Tree) (samples : ℕ) (records : List LossRecord) → AreWithin records → AreWithin (reinsured trees samples records)
reinsured-within [] samples records within = within
reinsured-within (tree ∷ trees) samples records within = reinsured-within trees samples (net_records tree 2 samples records) (net-within tree 2 samples records within)

-- that the losses are records of a stream
pub reinsured-good : (trees : List Tree) (samples : ℕ) (records : List LossRecord) → All (IsLoss samples) records → AreWithin records → All (IsLoss samples) (reinsured trees samples records)
reinsured-good [] samples records are within = are
reinsured-good (tree ∷ trees) samples records are within = reinsured-good trees samples (net_records tree 2 samples records) (net-good tree 2 samples records are within) (net-within tree 2 samples records within)

-- their event
pub reinsured-event : (trees : List Tree) (samples event : ℕ) (records : List LossRecord) → All (λ entry. entry.event ≡ event) records → All (λ entry. entry.event ≡ event) (reinsured trees samples records)
reinsured-event [] samples event records same = same
reinsured-event (tree ∷ trees) samples event records same = reinsured-event trees samples event (net_records tree 2 samples records) (net-event tree 2 samples records event same)

-- what is known of their ids
pub reinsured-known : (trees : List Tree) (samples : ℕ) (known : ℕ → Bool) (records : List LossRecord) → All (λ entry. known entry.id ≡ true) records → All (λ entry. known entry.id ≡ true) (reinsured trees samples records)
reinsured-known [] samples known records all = all
reinsured-known (tree ∷ trees) samples known records all = reinsured-known trees samples known (net_records tree 2 samples records) (net-known tree 2 samples records known all)

-- and that their ids rise
pub reinsured-rises : (trees : List Tree) (samples : ℕ) (records : List LossRecord) → IsRising (map (λ entry. entry.id) records) → IsRising (map (λ entry. entry.id) (reinsured trees samples records))
reinsured-rises [] samples records rises = rises
reinsured-rises (tree ∷ trees) samples records rises = reinsured-rises trees samples (net_records tree 2 samples records) (net-rises tree 2 samples records rises)
