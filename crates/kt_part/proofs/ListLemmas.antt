-- Lists to which one more is pushed, read at each place.
use Rattle.std.proofs.Common.{◌≡◌, ℕ, ◌+◌, ◌-◌, ◌<◌, ◌≤◌, List, [], ◌∷◌, ◌++◌, All, length, get_or, refl, sym, subst, ⊎_elim, arith}
use Rattle.std.proofs.lemmas.List.{get_or_append_left, get_or-append-add, get_or-append_right, get_or_push, length-append, length_push}
use Rattle.std.proofs.lemmas.Bool.{cases_lt}

-- a place of the longer list is one of the shorter or the last
at-last : {A : Type 0} (list : List A) (one default : A) (place : ℕ) → place < length (list ++ one ∷ []) → length list ≤ place → get_or (list ++ one ∷ []) place default ≡ one
at-last list one default place within last = get_or_push list one default place (let more = length_push list one in omega arith)

module _ {A : Type 0} (P : A → Type 0) where
  -- what holds of each and of one more
  pub all-pushed : (list : List A) (one : A) → All P list → P one → All P (list ++ one ∷ [])
  all-pushed list one all is place default within = ⊎_elim
      (λ (here : place < length list). subst P (sym (get_or_append_left list (one ∷ []) default place here)) (all place default here))
      (λ (last : length list ≤ place). subst P (sym (at-last list one default place within last)) is)
      (cases_lt place (length list))

  -- what holds of each of the longer list holds of each of the shorter
  pub all-front : (list : List A) (one : A) → All P (list ++ one ∷ []) → All P list
  all-front list one all place default within = subst P (get_or_append_left list (one ∷ []) default place within) (all place default (let more = length_push list one in omega arith))

  -- and of the last
  pub all-last : (list : List A) (one : A) → All P (list ++ one ∷ []) → P one
  all-last list one all = subst P (get_or_push list one one (length list) refl) (all (length list) one (let more = length_push list one in omega arith))

  -- what holds of each of two lists joined holds of each of the first
  pub all-left : (list others : List A) → All P (list ++ others) → All P list
  all-left list others all place default within = subst P (get_or_append_left list others default place within) (all place default (let both = length-append list others in omega (arith, within)))

  -- and of each of the second
  pub all-right : (list others : List A) → All P (list ++ others) → All P others
  all-right list others all place default within = subst P (get_or-append-add list others place default) (all (length list + place) default (let both = length-append list others in omega (arith, within)))

-- what holds at each place of lists and of others as long holds at each place of both joined
pub each-joined : {A : Type 0} (R : A → A → Type 0) (list others list' others' : List A) → length list' ≡ length list
    → ((place : ℕ) (default : A) → place < length list → R (get_or list place default) (get_or list' place default))
    → ((place : ℕ) (default : A) → place < length others → R (get_or others place default) (get_or others' place default))
    → (place : ℕ) (default : A) → place < length (list ++ others) → R (get_or (list ++ others) place default) (get_or (list' ++ others') place default)
each-joined {A} R list others list' others' many first second place default within = ⊎_elim
    (λ (here : place < length list).
    subst (λ (a : A). R a (get_or (list' ++ others') place default)) (sym (get_or_append_left list others default place here))
    (subst (R (get_or list place default)) (sym (get_or_append_left list' others' default place (omega (arith, here, many)))) (first place default here)))
    (λ (later : length list ≤ place).
    subst (λ (a : A). R a (get_or (list' ++ others') place default)) (sym (get_or-append_right list others (length list) place default refl later))
    (subst (R (get_or others (place - length list) default)) (sym (get_or-append_right list' others' (length list) place default many later))
    (second (place - length list) default (let both = length-append list others in omega (arith, within, later)))))
    (cases_lt place (length list))
