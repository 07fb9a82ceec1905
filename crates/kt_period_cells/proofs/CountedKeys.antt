-- The keys that become cells one by one, and that they are those with a total above 0.
use Rattle.std.proofs.Common.{◌≡◌, ℕ, zero, suc, ◌+◌, List, [], ◌∷◌, ◌++◌, length, arith, refl, sym, ap, ◌∙◌, cond}
use Rattle.std.specs.Prelude.{Bool, true, false, ◌&&◌, ◌||◌, nat_eq, nat_lt}
use Rattle.std.specs.Cmp.{IsEquivalence}
use Rattle.std.specs.List.{AllByRecursion, IsDistinct, list_any}
use Rattle.std.proofs.lemmas.Bool.{true≢false}
use Rattle.std.proofs.lemmas.Bool.Decides.{nat_tests}
use Rattle.std.proofs.lemmas.Map.Keys.{IsDistinct-cons}
use Rattle.std.proofs.lemmas.Map.Made.{length-from_same_keys}
use Rattle.kt_rec.specs.declared.perspective.CellKey.{CellKey}
use Rattle.kt_period_cells.specs.CellKeys.{AreCellKeys}
use Rattle.kt_cell.specs.Losses.{KeyLoss, cell_count, one_if, opened, opens, same_key, total}
use Rattle.kt_cell.specs.SameKeys.{bool_same, same_exact, same_itself}
use Rattle.kt_cell.specs.TotalLaws.{loss_for}
use Rattle.kt_period_cells.proofs.SameLosses.{total_first}
use Rattle.kt_period_cells.proofs.Steps.{total_push}

-- ---- keys

-- whether two keys are the same, asked the other way round
turned : (a b : CellKey) → same_key a b ≡ same_key b a
turned a b =
    bool_same (same_key a b) (same_key b a)
    (λ same. let one : a ≡ b = same_exact a b same in rw one (same_itself b))
    (λ same. let one : b ≡ a = same_exact b a same in rw one (same_itself a))

same_keys : IsEquivalence same_key
same_keys = record {
  refl = same_itself;
  symm = turned;
  congr = λ a b c same. ap (λ (key : CellKey). same_key key c) (same_exact a b same);
}

-- ---- the keys that become cells

-- the keys that become cells by further losses
abbrev pub opened_keys : List KeyLoss → List KeyLoss → List CellKey
opened_keys before [] = []
opened_keys before (one ∷ rest) = cond (opens before one) (one.key ∷ opened_keys (before ++ one ∷ []) rest) (opened_keys (before ++ one ∷ []) rest)

-- they are as many as are counted
pub length_opened : (before losses : List KeyLoss) → length (opened_keys before losses) ≡ opened before losses
length_opened before [] = refl
length_opened before (one ∷ rest) = by (opens before one) (opened_keys (before ++ one ∷ []) rest) (length_opened (before ++ one ∷ []) rest)
  where
    by : (opens_one : Bool) (later : List CellKey) → length later ≡ opened (before ++ one ∷ []) rest → length (cond opens_one (one.key ∷ later) later) ≡ one_if opens_one + opened (before ++ one ∷ []) rest
    by true later same = omega (arith, same)
    by false later same = omega (arith, same)

-- whether the key of a loss becomes a cell by it or behind it: it has this total before, gains this loss, and this total behind it
own_step : (before loss later : ℕ) (opens_one same found : Bool) → opens_one ≡ (nat_lt 0 loss && nat_eq before 0) → same ≡ true → found ≡ (nat_eq (before + loss) 0 && nat_lt 0 later) → ((opens_one && same) || found) ≡ (nat_eq before 0 && nat_lt 0 (loss + later))
own_step before loss later opens_one same found one is behind = rw (one, is, behind) (by before loss)
  where
    not_open : (b : Bool) → (((b && false) && true) || false) ≡ false
    not_open true = refl
    not_open false = refl

    by : (before loss : ℕ) → (((nat_lt 0 loss && nat_eq before 0) && true) || (nat_eq (before + loss) 0 && nat_lt 0 later)) ≡ (nat_eq before 0 && nat_lt 0 (loss + later))
    by (suc before) loss =
        let some : nat_eq (suc before) 0 ≡ false = grind (arith, nat_tests) in
        let more : nat_eq (suc before + loss) 0 ≡ false = grind (arith, nat_tests) in
        rw (some, more) (not_open (nat_lt 0 loss))
    by zero zero = let same : 0 + later ≡ later = omega arith in rw same refl
    by zero (suc loss) =
        let some : nat_lt 0 (suc loss) ≡ true = grind (arith, nat_tests) in
        let more : nat_lt 0 (suc loss + later) ≡ true = grind (arith, nat_tests) in
        rw (some, more) refl

-- whether another key does, to which the loss does not fall
other_step : (before loss later : ℕ) (opens_one same found : Bool) → loss ≡ 0 → same ≡ false → found ≡ (nat_eq (before + loss) 0 && nat_lt 0 later) → ((opens_one && same) || found) ≡ (nat_eq before 0 && nat_lt 0 (loss + later))
other_step before loss later opens_one same found none is behind =
    let so_far : before + loss ≡ before = omega (arith, none) in
    let further : loss + later ≡ later = omega (arith, none) in
    rw (is, behind, so_far, further) (by opens_one)
  where
    by : (opens_one : Bool) → ((opens_one && false) || (nat_eq before 0 && nat_lt 0 later)) ≡ (nat_eq before 0 && nat_lt 0 later)
    by true = refl
    by false = refl

-- whether a key is among those that become cells: its total was 0, and it has a loss
pub opened_exact : (before losses : List KeyLoss) (key : CellKey) → list_any (same_key key) (opened_keys before losses) ≡ (nat_eq (total before key) 0 && nat_lt 0 (total losses key))
opened_exact before [] key = sym (none (nat_eq (total before key) 0))
  where
    none : (b : Bool) → (b && false) ≡ false
    none true = refl
    none false = refl
opened_exact before (one ∷ rest) key = by (same_key key one.key) refl (opened_exact (before ++ one ∷ []) rest key ∙ ap (λ n. nat_eq n 0 && nat_lt 0 (total rest key)) (total_push before one key))
  where
    later : List CellKey
    later = opened_keys (before ++ one ∷ []) rest

    among : (opens_one : Bool) (keys : List CellKey) → list_any (same_key key) (cond opens_one (one.key ∷ keys) keys) ≡ ((opens_one && same_key key one.key) || list_any (same_key key) keys)
    among true keys = refl
    among false keys = refl

    whole : (nat_eq (total before key) 0 && nat_lt 0 (loss_for one key + total rest key)) ≡ (nat_eq (total before key) 0 && nat_lt 0 (total (one ∷ rest) key))
    whole = ap (λ n. nat_eq (total before key) 0 && nat_lt 0 n) (sym (total_first one rest key))

    by : (same : Bool) → same_key key one.key ≡ same → list_any (same_key key) later ≡ (nat_eq (total before key + loss_for one key) 0 && nat_lt 0 (total rest key)) → list_any (same_key key) (opened_keys before (one ∷ rest)) ≡ (nat_eq (total before key) 0 && nat_lt 0 (total (one ∷ rest) key))
    by true is behind =
        let here : opens before one ≡ (nat_lt 0 one.loss && nat_eq (total before key) 0) = ap (λ (k : CellKey). nat_lt 0 one.loss && nat_eq (total before k) 0) (sym (same_exact key one.key is)) in
        let loss : loss_for one key ≡ one.loss = ap (λ b. cond b one.loss 0) (turned one.key key ∙ is) in
        among (opens before one) later
        ∙ own_step (total before key) (loss_for one key) (total rest key) (opens before one) (same_key key one.key) (list_any (same_key key) later) (here ∙ ap (λ n. nat_lt 0 n && nat_eq (total before key) 0) (sym loss)) is behind
        ∙ whole
    by false is behind =
        let loss : loss_for one key ≡ 0 = ap (λ b. cond b one.loss 0) (turned one.key key ∙ is) in
        among (opens before one) later
        ∙ other_step (total before key) (loss_for one key) (total rest key) (opens before one) (same_key key one.key) (list_any (same_key key) later) loss is behind
        ∙ whole

-- none of a list passes a test that finds nothing in it
none_found : (test : CellKey → Bool) (keys : List CellKey) → list_any test keys ≡ false → AllByRecursion (λ key. test key ≡ false) keys
none_found test [] none = tt
none_found test (key ∷ keys) none = by (test key) refl none (none_found test keys)
  where
    by : (found : Bool) → test key ≡ found → (found || list_any test keys) ≡ false → (list_any test keys ≡ false → AllByRecursion (λ key. test key ≡ false) keys) → (test key ≡ false) × AllByRecursion (λ key. test key ≡ false) keys
    by true is none later = absurd (true≢false none)
    by false is none later = (is, later none)

-- a key that was opened is not opened again
not_again : (before rest : List KeyLoss) (one : KeyLoss) → opens before one ≡ true → list_any (same_key one.key) (opened_keys (before ++ one ∷ []) rest) ≡ false
not_again before rest one opens_one =
    opened_exact (before ++ one ∷ []) rest one.key
    ∙ ap (λ n. nat_eq n 0 && nat_lt 0 (total rest one.key)) (total_push before one one.key ∙ ap (λ b. total before one.key + cond b one.loss 0) (same_itself one.key))
    ∙ above (total before one.key) one.loss opens_one
  where
    above : (t l : ℕ) → (nat_lt 0 l && nat_eq t 0) ≡ true → (nat_eq (t + l) 0 && nat_lt 0 (total rest one.key)) ≡ false
    above t zero is = absurd (true≢false (sym is))
    above t (suc l) is = let some : nat_eq (t + suc l) 0 ≡ false = grind (arith, nat_tests) in rw some refl

pub opened_once : (before losses : List KeyLoss) → IsDistinct same_key (opened_keys before losses)
unfolding IsDistinct
opened_once before [] = tt
opened_once before (one ∷ rest) = by (opens before one) refl (opened_once (before ++ one ∷ []) rest)
  where
    by : (opens_one : Bool) → opens before one ≡ opens_one → IsDistinct same_key (opened_keys (before ++ one ∷ []) rest) → IsDistinct same_key (cond opens_one (one.key ∷ opened_keys (before ++ one ∷ []) rest) (opened_keys (before ++ one ∷ []) rest))
    by true is later = IsDistinct-cons same_key one.key (opened_keys (before ++ one ∷ []) rest) (none_found (same_key one.key) (opened_keys (before ++ one ∷ []) rest) (not_again before rest one is)) later
    by false is later = later

-- ---- the count

-- they are the keys of the cells
pub cells_listed : (losses : List KeyLoss) → (keys : List CellKey) × AreCellKeys losses keys
cells_listed losses = (opened_keys [] losses, record { once = opened_once [] losses; exact = λ key. opened_exact [] losses key })

-- and however these are listed, they are as many as are counted
pub cells_counted : (losses : List KeyLoss) (keys : List CellKey) → AreCellKeys losses keys → cell_count losses ≡ length keys
cells_counted losses keys are =
    sym (length_opened [] losses)
    ∙ length-from_same_keys same_keys (opened_keys [] losses) keys (opened_once [] losses) are.once (λ key. opened_exact [] losses key ∙ sym (are.exact key))
