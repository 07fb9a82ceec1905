-- One more item comes, wherever it stands among those that have come.
use Rattle.std.proofs.Common.{◌≡◌, ℕ, ◌+◌, ◌<◌, ◌≤◌, ◌≢◌, Bool, true, false, List, [], ◌∷◌, ◌++◌, Option, Some, None, refl, sym, ap, subst, ◌∙◌, inl, inr, ⊎_elim, append_assoc, arith}
use Rattle.std.proofs.lemmas.Bool.{cases_eq, cases_lt}
use Rattle.kt_claims.specs.Numbers.{once_at, times}
use Rattle.kt_claims.specs.Arrivals.{IsIn, AreStrange, numbers_of, FitsSlot, HoldsAll, HasCome}
use Rattle.kt_claims.specs.declared.inbox.Inbox.{Inbox}
use Rattle.kt_claims.specs.declared.inbox.Item.{Item}
use Rattle.kt_claims.proofs.NumberLemmas.{at-yes, at-no}

module _ {B : Type 0} where
  -- its number stands once more
  times-more : (number : ℕ) (item : Item B) (front back : List (Item B)) → times number (numbers_of (front ++ item ∷ back)) ≡ times number (numbers_of (front ++ back)) + once_at item.number number
  times-more number item [] back = omega arith
  times-more number item (first ∷ front) back = omega (arith, times-more number item front back)

  -- it is in the list
  in-middle : (item : Item B) (front back : List (Item B)) → IsIn item (front ++ item ∷ back)
  in-middle item [] back = inl refl
  in-middle item (first ∷ front) back = inr (in-middle item front back)

  -- what was in the list is in it
  in-more : (one item : Item B) (front back : List (Item B)) → IsIn one (front ++ back) → IsIn one (front ++ item ∷ back)
  in-more one item [] back is = inr is
  in-more one item (first ∷ front) back is = ⊎_elim (λ (same : first ≡ one). inl same) (λ (later : IsIn one (front ++ back)). inr (in-more one item front back later)) is

  -- what was strange is strange
  strange-more : (item : Item B) (front back : List (Item B)) → AreStrange (numbers_of (front ++ back)) → AreStrange (numbers_of (front ++ item ∷ back))
  strange-more item front back strange = record {
    number = strange.number;
    why = let more = times-more strange.number item front back in ⊎_elim
        (λ (above : (16 ≤ strange.number) × (1 ≤ times strange.number (numbers_of (front ++ back)))). inl (above.0, let least = above.1 in omega arith))
        (λ (twice : 2 ≤ times strange.number (numbers_of (front ++ back))). inr (omega arith)) strange.why;
  }

  -- another number's slot still holds what has come
  fits-more : (number : ℕ) (slot : Option (Option B)) (item : Item B) (front back : List (Item B)) → number ≢ item.number → FitsSlot number slot (front ++ back) → FitsSlot number slot (front ++ item ∷ back)
  fits-more number None item front back isnt fits = omega (arith, times-more number item front back, at-no item.number number (λ is. isnt (sym is)))
  fits-more number (Some block) item front back isnt fits = (
    (let one = fits.0 in omega (arith, times-more number item front back, at-no item.number number (λ is. isnt (sym is)))),
    in-more (record { number = number; block = block }) item front back fits.1,
  )

  -- an item is put into its empty slot
  pub put-in : (slot now : ℕ → Option (Option B)) (spoiled : Bool) (item : Item B) (front back : List (Item B)) → item.number < 16 → slot item.number ≡ None → now item.number ≡ Some item.block
      → ((number : ℕ) → number ≢ item.number → now number ≡ slot number) → HoldsAll slot spoiled (front ++ back) → HoldsAll now spoiled (front ++ item ∷ back)
  put-in slot now true item front back within empty at others holds = strange-more item front back holds
  put-in slot now false item front back within empty at others holds = λ number small. ⊎_elim
      (λ (is : number ≡ item.number).
      let none : FitsSlot item.number None (front ++ back) = subst (λ (s : Option (Option B)). FitsSlot item.number s (front ++ back)) empty (holds item.number within) in
      let here : FitsSlot item.number (Some item.block) (front ++ item ∷ back) = (omega (arith, none, times-more item.number item front back, at-yes item.number item.number refl), in-middle item front back) in
      subst (λ (n : ℕ). FitsSlot n (now n) (front ++ item ∷ back)) (sym is) (subst (λ (s : Option (Option B)). FitsSlot item.number s (front ++ item ∷ back)) (sym at) here))
      (λ (isnt : number ≢ item.number). subst (λ (s : Option (Option B)). FitsSlot number s (front ++ item ∷ back)) (sym (others number isnt)) (fits-more number (slot number) item front back isnt (holds number small)))
      (cases_eq number item.number)

  -- an item whose slot is not empty is strange
  taken : (slot : Option (Option B)) (item : Item B) (front back : List (Item B)) → (slot ≡ None → ⊥) → FitsSlot item.number slot (front ++ back) → AreStrange (numbers_of (front ++ item ∷ back))
  taken None item front back isnt fits = absurd (isnt refl)
  taken (Some block) item front back isnt fits = record { number = item.number; why = let one = fits.0 in inr (omega (arith, times-more item.number item front back, at-yes item.number item.number refl)) }

  -- an item for which there is no room makes what has come strange
  pub left-out : (slot : ℕ → Option (Option B)) (spoiled : Bool) (item : Item B) (front back : List (Item B)) → (item.number < 16 → slot item.number ≡ None → ⊥) → HoldsAll slot spoiled (front ++ back) → AreStrange (numbers_of (front ++ item ∷ back))
  left-out slot true item front back full holds = strange-more item front back holds
  left-out slot false item front back full holds = ⊎_elim
      (λ (within : item.number < 16). taken (slot item.number) item front back (full within) (holds item.number within))
      (λ (above : 16 ≤ item.number). record { number = item.number; why = inl (above, omega (arith, times-more item.number item front back, at-yes item.number item.number refl)) })
      (cases_lt item.number 16)

  -- an item that comes out of a lane moves to what was taken out of it
  pub moved : (before after : Inbox B) (item : Item B) (was now front back : List (Item B)) → now ≡ was ++ item ∷ []
      → ((front back : List (Item B)) → HasCome before (front ++ back) → HasCome after (front ++ item ∷ back)) → HasCome before (front ++ (was ++ back)) → HasCome after (front ++ (now ++ back))
  moved before after item was now front back is accepts come =
      let there : HasCome after ((front ++ was) ++ item ∷ back) = accepts (front ++ was) back (subst (HasCome before) (sym (append_assoc front was back)) come) in
      let same : (front ++ was) ++ item ∷ back ≡ front ++ (now ++ back) = append_assoc front was (item ∷ back) ∙ ap (λ (l : List (Item B)). front ++ l) (sym (append_assoc was (item ∷ []) back) ∙ ap (λ (l : List (Item B)). l ++ back) (sym is)) in
      subst (HasCome after) same there
