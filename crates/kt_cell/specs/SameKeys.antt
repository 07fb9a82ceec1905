-- Which keys are the same, part by part.
-- The rule: docs/CALCULATION.md, "Periods".
use Rattle.std.proofs.Common.{◌≡◌, refl, sym, ap}
use Rattle.std.specs.Prelude.{ℕ, ℤ, pos, Bool, true, false, ◌&&◌, nat_eq}
use Rattle.std.specs.Ordering.{int_eq}
use Rattle.std.proofs.lemmas.Bool.{and_parts}
use Rattle.std.proofs.lemmas.Bool.Decides.{Decides-eqb, Decides-int_eq}
use Rattle.kt_rec.specs.declared.perspective.Perspective.{Perspective}
use Rattle.kt_rec.specs.declared.perspective.Perspective.TheVariants.{Gul, Il, Ri}
use Rattle.kt_rec.specs.declared.perspective.CellKey.{CellKey}
use Rattle.kt_cell.specs.Losses.{same_key, same_perspective, key_of}

-- perspectives with the same name
pub perspective_same : (a b : Perspective) → same_perspective a b ≡ true → a ≡ b
perspective_same Gul Gul e = refl
perspective_same Gul Il e = cc
perspective_same Gul Ri e = cc
perspective_same Il Gul e = cc
perspective_same Il Il e = refl
perspective_same Il Ri e = cc
perspective_same Ri Gul e = cc
perspective_same Ri Il e = cc
perspective_same Ri Ri e = refl

-- a perspective is the same as itself
pub same_perspective_itself : (a : Perspective) → same_perspective a a ≡ true
same_perspective_itself Gul = refl
same_perspective_itself Il = refl
same_perspective_itself Ri = refl

-- keys with the same parts are the same
same_parts : (p p' : Perspective) (s s' u u' : ℕ) (x x' : ℤ) (t t' : ℕ) → p ≡ p' → s ≡ s' → u ≡ u' → x ≡ x' → t ≡ t' → key_of p s u x t ≡ key_of p' s' u' x' t'
same_parts p p' s s' u u' x x' t t' a b c d e = cc

-- keys that are the same by the test are one
pub same_exact : (a b : CellKey) → same_key a b ≡ true → a ≡ b
same_exact a b same =
    let one = and_parts (same_perspective a.perspective b.perspective) (nat_eq a.set b.set && (nat_eq a.summary b.summary && (int_eq a.sidx b.sidx && nat_eq a.period b.period))) same in
    let two = and_parts (nat_eq a.set b.set) (nat_eq a.summary b.summary && (int_eq a.sidx b.sidx && nat_eq a.period b.period)) one.1 in
    let three = and_parts (nat_eq a.summary b.summary) (int_eq a.sidx b.sidx && nat_eq a.period b.period) two.1 in
    let four = and_parts (int_eq a.sidx b.sidx) (nat_eq a.period b.period) three.1 in
    same_parts a.perspective b.perspective a.set b.set a.summary b.summary a.sidx b.sidx a.period b.period
    (perspective_same a.perspective b.perspective one.0) ((Decides-eqb a.set b.set).0 two.0) ((Decides-eqb a.summary b.summary).0 three.0) ((Decides-int_eq a.sidx b.sidx).0 four.0) ((Decides-eqb a.period b.period).0 four.1)

-- a key is the same as itself
pub same_itself : (key : CellKey) → same_key key key ≡ true
same_itself key = all _ _ _ _ _ (same_perspective_itself key.perspective) ((Decides-eqb key.set key.set).1 refl) ((Decides-eqb key.summary key.summary).1 refl) ((Decides-int_eq key.sidx key.sidx).1 refl) ((Decides-eqb key.period key.period).1 refl)
  where
    all : (a b c d e : Bool) → a ≡ true → b ≡ true → c ≡ true → d ≡ true → e ≡ true → (a && (b && (c && (d && e)))) ≡ true
    all a b c d e p q r s t = rw (p, q, r, s, t) refl

-- tests that hold together are the same
pub bool_same : (a b : Bool) → (a ≡ true → b ≡ true) → (b ≡ true → a ≡ true) → a ≡ b
bool_same true b f g = sym (f refl)
bool_same false true f g = g refl
bool_same false false f g = refl

-- a test of numbers as signed ones
pub pos_same : (i j : ℕ) → int_eq (pos i) (pos j) ≡ nat_eq i j
pos_same i j =
    bool_same (int_eq (pos i) (pos j)) (nat_eq i j)
    (λ same. let is : pos i ≡ pos j = (Decides-int_eq (pos i) (pos j)).0 same in (Decides-eqb i j).1 (let e : i ≡ j = cc in e))
    (λ same. (Decides-int_eq (pos i) (pos j)).1 (ap pos ((Decides-eqb i j).0 same)))
