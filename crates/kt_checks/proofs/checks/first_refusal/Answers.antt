use Rattle.std.proofs.Common.{◌≡◌, ◌++◌, sym, ◌∙◌}
use Rattle.kt_keys.specs.Refusals.{first_of}
use Rattle.kt_checks.specs.Checks.{table_checks, programme_checks, size_checks, first_refusal}
use Rattle.kt_checks.proofs.RefusalLemmas.{found_first, found_later}
use Rattle.std.proofs.lemmas.Result.{IfOk-weaker}
use Rattle.kt_rec.specs.Rows.{rows_of}
use Rattle.kt_checks.proofs.checks.first_refusal.Goals as goal

pub returns-then-is_some : goal.returns-then-is_some
unfolding first_refusal
returns-then-is_some c =
    let rows = rows_of c.args.tables.now in
    let need = c.args.need.now in
    record { value = found_first _ (table_checks rows need) (programme_checks rows need ++ size_checks rows need) (sym c.is_some.ensures ∙ c.if-is_some.true) c.in_ok-found.ensures.value }

pub returns-then-is_some-2 : goal.returns-then-is_some-2
unfolding first_refusal
returns-then-is_some-2 c =
    let rows = rows_of c.args.tables.now in
    let need = c.args.need.now in
    record {
      value =
          found_later _ _ (table_checks rows need) (programme_checks rows need ++ size_checks rows need) (sym c.is_some.ensures ∙ c.if-is_some.false) c.in_ok-found.ensures.value
          (found_first _ (programme_checks rows need) (size_checks rows need) (sym c.is_some-2.ensures ∙ c.if-is_some-2.true) c.in_ok-found-2.ensures.value);
    }

pub returns : goal.returns
unfolding first_refusal
returns c =
    let rows = rows_of c.args.tables.now in
    let need = c.args.need.now in
    record {
      value =
          IfOk-weaker c.size_checks.result (λ found. found ≡ first_of (size_checks rows need)) (λ found. found ≡ first_refusal rows need)
          (λ found is. found_later _ _ (table_checks rows need) (programme_checks rows need ++ size_checks rows need) (sym c.is_some.ensures ∙ c.if-is_some.false) c.in_ok-found.ensures.value
          (found_later _ _ (programme_checks rows need) (size_checks rows need) (sym c.is_some-2.ensures ∙ c.if-is_some-2.false) c.in_ok-found-2.ensures.value is))
          c.size_checks.ensures.value;
    }
