-- Steps of a loop that keeps the total of each summary.
use Rattle.std.proofs.Common.{◌≡◌, ℕ, ◌+◌, ◌-◌, ◌*◌, ◌^◌, ◌<◌, ◌≤◌, Bool, true, false, cond, List, [], ◌∷◌, ◌++◌, length, get_or, take, refl, ap, sym, subst, ◌∙◌, nat_eq, Option, None, Some, unwrap_or, arith}
use Rattle.std.proofs.Math.Path.{fun_ext}
use Rattle.std.specs.Prelude.{◌&&◌, ◌||◌, is_some, MatchOption}
use Rattle.std.specs.Cmp.{nat_eq_equiv}
use Rattle.std.specs.Map.{lookup}
use Rattle.std.specs.Option.{option_or}
use Rattle.std.specs.List.{IsDistinct, filter, list_any}
use Rattle.std.specs.List.Sorted.{IsPermutation}
use Rattle.std.proofs.lemmas.List.Sorted.{list_any-IsPermutation}
use Rattle.std.proofs.lemmas.Bool.{and_parts, eqb-true, or_parts}
use Rattle.std.proofs.lemmas.Grind.{common_steps}
use Rattle.std.proofs.lemmas.Bool.Decides.{nat_tests}
use Rattle.std.proofs.lemmas.List.Folds.{list_any_more}
use Rattle.kt_keys.specs.Keys.{same_pair}
use Rattle.kt_exposure.specs.declared.exposure.SummaryUnit.{SummaryUnit}
use Rattle.kt_exposure.specs.declared.exposure.UnitCoverage.{UnitCoverage}
use Rattle.kt_exposure.specs.Exposure.{AreOfOneSummary, unit_covers, summary_covers, IsTotalOf}
use Rattle.kt_exposure.proofs.CoverLemmas.{list_any-filter}
use Rattle.kt_keys.proofs.UnitTableLemmas.{same_is}

-- the parts of pairs are compared both ways
pairs_symm : (one other : ℕ × ℕ) → same_pair one other ≡ same_pair other one
pairs_symm one other = λ j. nat_eq_equiv.symm one.0 other.0 j && nat_eq_equiv.symm one.1 other.1 j

-- what is found behind other pairs
lookup-pushed : {K V : Type 0} (test : K → Bool) (pairs : List (K × V)) (last : K × V) → lookup test (pairs ++ last ∷ []) ≡ option_or (lookup test pairs) (cond (test last.0) (Some last.1) None)
lookup-pushed test [] last = refl
lookup-pushed test (pair ∷ pairs) last = by (test pair.0) (lookup-pushed test pairs last)
  where
    by : (b : Bool) → lookup test (pairs ++ last ∷ []) ≡ option_or (lookup test pairs) (cond (test last.0) (Some last.1) None) → cond b (Some pair.1) (lookup test (pairs ++ last ∷ [])) ≡ option_or (cond b (Some pair.1) (lookup test pairs)) (cond (test last.0) (Some last.1) None)
    by true rest = refl
    by false rest = rest

-- what fails a test fails it and another
none-also : {X : Type 0} (one other : X → Bool) (rows : List X) → list_any one rows ≡ false → list_any (λ row. one row && other row) rows ≡ false
none-also one other [] h = refl
none-also one other (row ∷ rows) h = let parts = or_parts (one row) (list_any one rows) h in rw (parts.0, none-also one other rows parts.1) refl

-- a total by a test is one by a test that agrees
pub total-agree : (test other : ℕ → Bool) (value : ℕ → ℕ) (total : ℕ) → ((id : ℕ) → test id ≡ other id) → IsTotalOf test value total → IsTotalOf other value total
total-agree test other value total agree h = record { ids = h.ids; distinct = h.distinct; passing = λ id. h.passing id ∙ agree id; is = h.is }

-- nothing passes a test that always fails
total-nothing : (test : ℕ → Bool) (value : ℕ → ℕ) → ((id : ℕ) → test id ≡ false) → IsTotalOf test value 0
unfolding IsDistinct
total-nothing test value fails = record { ids = []; distinct = tt; passing = λ id. sym (fails id); is = refl }

-- a row of a summary has its key
absorbs : (a b s m : ℕ) (rest : Bool) → (nat_eq (a * 2 ^ 32 + b) (s * 2 ^ 32 + m) && (nat_eq a s && nat_eq b m && rest)) ≡ (nat_eq a s && nat_eq b m && rest)
absorbs a b s m rest = grind (arith, nat_tests, common_steps)

-- the rows of a summary's key have all its coverages
pub group-covers : (rows : List SummaryUnit) (pairs : List UnitCoverage) (set summary key : ℕ) (coverage : ℕ) → key ≡ set * 2 ^ 32 + summary → summary_covers (filter (λ row. nat_eq (row.set * 2 ^ 32 + row.summary) key) rows) pairs (set, summary) coverage ≡ summary_covers rows pairs (set, summary) coverage
group-covers rows pairs set summary key coverage is =
    ap (λ n. summary_covers (filter (λ row. nat_eq (row.set * 2 ^ 32 + row.summary) n) rows) pairs (set, summary) coverage) is
    ∙ (list_any-filter (λ row. nat_eq (row.set * 2 ^ 32 + row.summary) (set * 2 ^ 32 + summary)) (λ row. nat_eq row.set set && nat_eq row.summary summary && unit_covers pairs row.unit coverage) rows
    ∙ ap (λ test. list_any test rows) (fun_ext (λ (row : SummaryUnit). absorbs row.set row.summary set summary (unit_covers pairs row.unit coverage))))

-- the order of the rows does not matter
pub covers-moved : (rows moved : List SummaryUnit) (pairs others : List UnitCoverage) → IsPermutation rows moved → IsPermutation pairs others → (key : ℕ × ℕ) (coverage : ℕ) → summary_covers moved others key coverage ≡ summary_covers rows pairs key coverage
covers-moved rows moved pairs others one other key coverage =
    sym (list_any-IsPermutation (λ row. nat_eq row.set key.0 && nat_eq row.summary key.1 && unit_covers others row.unit coverage) rows moved one)
    ∙ ap (λ test. list_any test rows) (fun_ext (λ (row : SummaryUnit). ap (λ b. nat_eq row.set key.0 && nat_eq row.summary key.1 && b) (sym (list_any-IsPermutation (λ pair. nat_eq pair.unit row.unit && nat_eq pair.coverage coverage) pairs others other))))

module _ (rows : List SummaryUnit) (pairs : List UnitCoverage) (value : ℕ → ℕ) where
  -- what is kept of a key: its total, or nothing where no row so far is of it
  abbrev pub KnownTotal : List SummaryUnit → ℕ × ℕ → Option ℕ → Type 0
  KnownTotal seen key found = MatchOption found (list_any (λ row. same_pair (row.set, row.summary) key) seen ≡ false) (IsTotalOf (summary_covers rows pairs key) value)

  -- after all rows, a key without a total has no coverage
  pub total-known : (key : ℕ × ℕ) (found : Option ℕ) → KnownTotal rows key found → IsTotalOf (summary_covers rows pairs key) value (unwrap_or found 0)
  total-known key (Some total) known = known
  total-known key None known = total-nothing (summary_covers rows pairs key) value (λ coverage. none-also (λ row. same_pair (row.set, row.summary) key) (λ row. unit_covers pairs row.unit coverage) rows known)

  module _ (i : ℕ) (d : SummaryUnit) (within : i < length rows) (key : ℕ × ℕ) where
    -- a key without a total is not that of the row
    step : (b : Bool) (found : Option ℕ) → same_pair ((get_or rows i d).set, (get_or rows i d).summary) key ≡ b → (b ≡ true → is_some found ≡ true) → KnownTotal (take i rows) key found → KnownTotal (take (i + 1) rows) key found
    step b (Some total) e h known = known
    step true None e h known = let never = h refl in cc
    step false None e h known = list_any_more (λ row. same_pair (row.set, row.summary) key) rows i d within ∙ (ap (λ x. x || same_pair ((get_or rows i d).set, (get_or rows i d).summary) key) known ∙ e)

    -- a row whose key has a total
    pub known-kept : (found : ℕ × ℕ → Option ℕ) → is_some (found ((get_or rows i d).set, (get_or rows i d).summary)) ≡ true → KnownTotal (take i rows) key (found key) → KnownTotal (take (i + 1) rows) key (found key)
    known-kept found there known = step (same_pair ((get_or rows i d).set, (get_or rows i d).summary) key) (found key) refl (λ e. subst (λ k. is_some (found k) ≡ true) (same_is _ key e) there) known

    -- a row whose key gets a total
    known-added : (new old : Option ℕ) (total : ℕ) → new ≡ cond (same_pair ((get_or rows i d).set, (get_or rows i d).summary) key) (Some total) old → KnownTotal (take i rows) key old → IsTotalOf (summary_covers rows pairs ((get_or rows i d).set, (get_or rows i d).summary)) value total → KnownTotal (take (i + 1) rows) key new
    known-added new old total put known is = subst (KnownTotal (take (i + 1) rows) key) (sym put) (by (same_pair ((get_or rows i d).set, (get_or rows i d).summary) key) refl)
      where
        by : (b : Bool) → same_pair ((get_or rows i d).set, (get_or rows i d).summary) key ≡ b → KnownTotal (take (i + 1) rows) key (cond b (Some total) old)
        by true e = subst (λ k. IsTotalOf (summary_covers rows pairs k) value total) (same_is _ key e) is
        by false e = step false old e (λ h. cc) known

    -- a row whose key gets a total behind those of others
    pub known-pushed : (found more : List ((ℕ × ℕ) × ℕ)) (total : ℕ) → more ≡ found ++ (((get_or rows i d).set, (get_or rows i d).summary), total) ∷ [] → KnownTotal (take i rows) key (lookup (same_pair key) found) → IsTotalOf (summary_covers rows pairs ((get_or rows i d).set, (get_or rows i d).summary)) value total → KnownTotal (take (i + 1) rows) key (lookup (same_pair key) more)
    known-pushed found more total more_is known is =
        subst (KnownTotal (take (i + 1) rows) key) (sym (ap (lookup (same_pair key)) more_is ∙ lookup-pushed (same_pair key) found (((get_or rows i d).set, (get_or rows i d).summary), total))) (by (lookup (same_pair key) found) known)
      where
        by : (old : Option ℕ) → KnownTotal (take i rows) key old → KnownTotal (take (i + 1) rows) key (option_or old (cond (same_pair key ((get_or rows i d).set, (get_or rows i d).summary)) (Some total) None))
        by (Some other) known = known
        by None known = known-added _ None total (ap (λ b. cond b (Some total) None) (pairs_symm key ((get_or rows i d).set, (get_or rows i d).summary))) known is

    -- a row of the summary of the row before it, whose key has a total
    pub known-before : (found : Option ℕ) → 1 ≤ i → AreOfOneSummary (get_or rows (i - 1) d) (get_or rows i d) → key ≡ ((get_or rows i d).set, (get_or rows i d).summary) → KnownTotal (take i rows) key found → is_some found ≡ true
    known-before (Some total) later same is known = refl
    known-before None later same is known =
        let last : i - 1 + 1 ≡ i = omega (arith, later) in
        let inside : i - 1 < length rows = omega (arith, within) in
        let here : same_pair ((get_or rows (i - 1) d).set, (get_or rows (i - 1) d).summary) key ≡ true = rw (is, same.sets, same.summaries) (both (get_or rows i d).set (get_or rows i d).summary) in
        absurd (true_false (sym (ap (λ b. list_any (λ row. same_pair (row.set, row.summary) key) (take (i - 1) rows) || b) here ∙ or_true _) ∙ (sym (list_any_more (λ row. same_pair (row.set, row.summary) key) rows (i - 1) d inside) ∙ (ap (λ n. list_any (λ row. same_pair (row.set, row.summary) key) (take n rows)) last ∙ known))))
      where
        both : (set summary : ℕ) → same_pair (set, summary) (set, summary) ≡ true
        both set summary = grind (arith, nat_tests, common_steps)

        or_true : (b : Bool) → (b || true) ≡ true
        or_true true = refl
        or_true false = refl

        true_false : true ≡ false → ⊥
        true_false is = cc
