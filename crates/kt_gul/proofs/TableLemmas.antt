-- The steps of distributions, one distribution behind the other.
use Rattle.std.proofs.Common.{◌≡◌, ◌⊎◌, inl, inr, ℕ, ◌+◌, ◌-◌, ◌<◌, ◌≤◌, List, [], ◌∷◌, ◌++◌, length, length-append, take, drop, get_or, sym, ap, subst, arith, ◌∙◌}
use Rattle.std.proofs.lemmas.Bool.{cases_lt}
use Rattle.std.proofs.lemmas.List.{drop_at, drop-append-le, get_or_default, get_or_push, length-drop, take_all, take-append-le}
use Rattle.std.proofs.Math.ListN.{get_or-append}
use Rattle.kt_damage.specs.Steps.{AreSteps}
use Rattle.kt_damage.specs.declared.steps.Step.{Step}
use Rattle.kt_rec.specs.declared.hazard.DamageBin.{DamageBin}
use Rattle.kt_stream.specs.declared.entry.Bin.{Bin}
use Rattle.kt_stream.specs.declared.entry.Cdf.{Cdf}
use Rattle.kt_gul.specs.StepTables.{IsTable, AreTables}
use Rattle.kt_gul.specs.declared.tables.StepTable.{StepTable}

-- the steps at some places stay where more come behind all
table_grown : (dictionary : List DamageBin) (bins : List Bin) (steps own : List Step) (table : StepTable) → IsTable dictionary bins steps table → IsTable dictionary bins (steps ++ own) table
table_grown dictionary bins steps own table here = record {
  order = here.order;
  within = omega (arith, here.within, length-append steps own);
  steps_are = subst (AreSteps dictionary bins) (sym (ap (take (table.end - table.start)) (drop-append-le table.start steps own (omega (arith, here.order, here.within))) ∙ take-append-le (table.end - table.start) (drop table.start steps) own (omega (arith, length-drop table.start steps, here.order, here.within)))) here.steps_are;
}

-- those that come last
table_last : (dictionary : List DamageBin) (bins : List Bin) (steps own : List Step) (table : StepTable) → AreSteps dictionary bins own → table.start ≡ length steps → table.end ≡ length (steps ++ own) → IsTable dictionary bins (steps ++ own) table
table_last dictionary bins steps own table are start_is end_is = record {
  order = omega (arith, length-append steps own);
  within = omega arith;
  steps_are = subst (AreSteps dictionary bins) (sym (ap (take (table.end - table.start)) (drop_at steps own table.start (sym start_is)) ∙ take_all (table.end - table.start) own (omega (arith, length-append steps own)))) are;
}

-- the distributions with one more
pub tables_more : (dictionary : List DamageBin) (cdfs : List Cdf) (i : ℕ) (d : Cdf) (tables longer : List StepTable) (table : StepTable) (steps more own : List Step) → AreTables dictionary cdfs i tables steps → i < length cdfs → AreSteps dictionary (get_or cdfs i d).bins own → more ≡ steps ++ own → table.start ≡ length steps → table.end ≡ length more → longer ≡ tables ++ table ∷ [] → AreTables dictionary cdfs (i + 1) longer more
tables_more dictionary cdfs i d tables longer table steps more own here below are more_is start_is end_is longer_is = record {
  count = omega (arith, ap length longer_is, length-append tables (table ∷ []), here.count);
  each = λ k t e under.
      subst (λ (more : List Step). IsTable dictionary (get_or cdfs k e).bins more (get_or longer k t)) (sym more_is)
      (subst (λ (tables : List StepTable). IsTable dictionary (get_or cdfs k e).bins (steps ++ own) (get_or tables k t)) (sym longer_is) (by k t e (cases_lt k i) under));
}
  where
    by : (k : ℕ) (t : StepTable) (e : Cdf) → (k < i) ⊎ (i ≤ k) → k < i + 1 → IsTable dictionary (get_or cdfs k e).bins (steps ++ own) (get_or (tables ++ table ∷ []) k t)
    by k t e (inl earlier) under =
        subst (IsTable dictionary (get_or cdfs k e).bins (steps ++ own)) (sym (get_or-append tables (table ∷ []) t k (omega (arith, earlier, here.count))))
        (table_grown dictionary (get_or cdfs k e).bins steps own (get_or tables k t) (here.each k t e earlier))
    by k t e (inr last) under =
        let same : k ≡ i = omega (arith, last, under) in
        subst (λ (k : ℕ). IsTable dictionary (get_or cdfs k e).bins (steps ++ own) (get_or (tables ++ table ∷ []) k t)) (sym same)
        (subst (IsTable dictionary (get_or cdfs i e).bins (steps ++ own)) (sym (get_or_push tables table t i here.count))
        (subst (λ (cdf : Cdf). IsTable dictionary cdf.bins (steps ++ own) table) (get_or_default cdfs i d e below)
        (table_last dictionary (get_or cdfs i d).bins steps own table are start_is (end_is ∙ ap length more_is))))
