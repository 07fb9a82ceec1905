-- What a run of all stages computes: its perspectives and their summary sets.
-- The rules: docs/COMMANDS.md, "chain".
use Rattle.std.specs.Prelude.{◌≡◌, ◌≢◌, ℕ, ◌≤◌, Bool, true, false, List, [], ◌∷◌, map}
use Rattle.std.specs.List.{filter, flat_map, range_with_len}
use Rattle.kt_rec.specs.Rows.{Rows}
use Rattle.kt_rec.specs.declared.perspective.Perspective.{Perspective}
use Rattle.kt_rec.specs.declared.perspective.Perspective.TheVariants.{Gul, Il, Ri}
use Rattle.kt_tables.specs.Lookups.{has_summary_set}
use Rattle.kt_block.specs.declared.terms.SummarySet.{SummarySet}
use Rattle.kt_block.specs.declared.terms.Terms.{Terms}

-- whether a run up to a perspective has insured losses
abbrev pub has_insured : Perspective → Bool
has_insured Gul = false
has_insured Il = true
has_insured Ri = true

-- whether it has net losses
abbrev pub has_net : Perspective → Bool
has_net Gul = false
has_net Il = false
has_net Ri = true

-- the perspectives of outputs in a run up to a last one
abbrev pub output_perspectives : Perspective → List Perspective
output_perspectives Gul = []
output_perspectives Il = Il ∷ []
output_perspectives Ri = Il ∷ Ri ∷ []

-- the perspectives of a run up to a last one
abbrev pub perspectives : Perspective → List Perspective
perspectives last = Gul ∷ output_perspectives last

-- terms that a run can have: 1 to 1,000 samples, an allocation rule, and at most nine stages; net losses are those of items
pub record AreTerms (terms : Terms) : Type 0 where
  pub some : 1 ≤ terms.samples
  pub few : terms.samples ≤ 1000
  pub rule : terms.rule ≤ 2
  pub stages : terms.stages ≤ 9
  pub of_items : has_net terms.last ≡ true → terms.rule ≢ 0

-- a summary set of a perspective
abbrev pub summary_set : Perspective → ℕ → SummarySet
summary_set perspective set = record { perspective = perspective; set = set }

-- the numbers of the summary sets that a perspective has, rising
abbrev pub set_numbers : Rows → Perspective → List ℕ
set_numbers rows perspective = filter (has_summary_set perspective rows) (range_with_len 1 9)

-- the summary sets that a perspective has, rising
abbrev pub sets_of : Rows → Perspective → List SummarySet
sets_of rows perspective = map (summary_set perspective) (set_numbers rows perspective)

-- those of net losses, where a run has some
abbrev pub net_sets : Rows → Perspective → List SummarySet
net_sets rows Gul = []
net_sets rows Il = []
net_sets rows Ri = sets_of rows Ri

-- the summary sets of a run, perspective by perspective
abbrev pub run_sets : Rows → Perspective → List SummarySet
run_sets rows last = flat_map (sets_of rows) (perspectives last)
