-- Lemmas on amounts that are added one after the other.
use Rattle.std.proofs.Common.{◌≡◌, ℕ, ◌+◌, ◌<◌, List, [], ◌∷◌, length, drop, get_or, refl, sym, ap, ◌∙◌, arith, drop-cons, add-one}
use Rattle.std.specs.List.{sum_by}
use Rattle.std.proofs.lemmas.List.Sums.{sum_by-cons}
use Rattle.kt_rules.specs.Amounts.{total}
use Rattle.kt_rules.specs.Profiles.{IsProfile}
use Rattle.kt_rules.specs.RuleLaws.{keeps-rule_of}
use Rattle.kt_rules.specs.Rules.{applied}
use Rattle.kt_rules.specs.declared.carry.Carry.{Carry}
use Rattle.kt_rules.specs.declared.profile.Profile.{Profile}
use Rattle.kt_fmtree.specs.Tree.{whole_loss, add_carries}
use Rattle.kt_fmtree.specs.TreeLaws.{shares_of}
use Rattle.kt_fmtree.specs.Carried.{added}

pub none-add : (carry : Carry) → add_carries (whole_loss 0) carry ≡ carry
none-add carry =
    let a : 0 + carry.loss ≡ carry.loss = omega arith in
    let b : 0 + carry.ded ≡ carry.ded = omega arith in
    let d : 0 + carry.over ≡ carry.over = omega arith in
    let e : 0 + carry.kept ≡ carry.kept = omega arith in
    rw (a, b, d, e) refl

pub add-none : (carry : Carry) → add_carries carry (whole_loss 0) ≡ carry
add-none carry =
    let a : carry.loss + 0 ≡ carry.loss = omega arith in
    let b : carry.ded + 0 ≡ carry.ded = omega arith in
    let d : carry.over + 0 ≡ carry.over = omega arith in
    let e : carry.kept + 0 ≡ carry.kept = omega arith in
    rw (a, b, d, e) refl

pub add-assoc : (a b c : Carry) → add_carries (add_carries a b) c ≡ add_carries a (add_carries b c)
add-assoc a b c =
    let p : a.loss + b.loss + c.loss ≡ a.loss + (b.loss + c.loss) = omega arith in
    let q : a.ded + b.ded + c.ded ≡ a.ded + (b.ded + c.ded) = omega arith in
    let r : a.over + b.over + c.over ≡ a.over + (b.over + c.over) = omega arith in
    let s : a.kept + b.kept + c.kept ≡ a.kept + (b.kept + c.kept) = omega arith in
    rw (p, q, r, s) refl

-- how far a sum has come
pub record IsAdding (carries : List Carry) (place : ℕ) (all : Carry) : Type 0 where
  pub sum_is : add_carries all (added (drop place carries)) ≡ added carries
  pub total_is : total all + sum_by total (drop place carries) ≡ sum_by total carries

pub adding-begins : (carries : List Carry) → IsAdding carries 0 (whole_loss 0)
adding-begins carries = record { sum_is = none-add (added carries); total_is = omega arith }

pub adding-goes : (carries : List Carry) (place : ℕ) (all d : Carry) → place < length carries → IsAdding carries place all → IsAdding carries (place + 1) (add_carries all (get_or carries place d))
adding-goes carries place all d below so_far =
    let next : drop place carries ≡ get_or carries place d ∷ drop (place + 1) carries = rw (add-one, drop-cons carries place d) refl in
    record {
      sum_is = add-assoc all (get_or carries place d) (added (drop (place + 1) carries)) ∙ (ap (λ rest. add_carries all (added rest)) (sym next) ∙ so_far.sum_is);
      total_is = omega (arith, so_far.total_is, ap (sum_by total) next, sum_by-cons total (get_or carries place d) (drop (place + 1) carries));
    }

pub adding-ends : (carries : List Carry) (all : Carry) → IsAdding carries (length carries) all → all ≡ added carries
adding-ends carries all so_far = sym (add-none all) ∙ (ap (λ rest. add_carries all (added rest)) (sym (none carries)) ∙ so_far.sum_is)
  where
    none : (carries : List Carry) → drop (length carries) carries ≡ []
    none [] = refl
    none (carry ∷ carries) = none carries

-- of nothing the terms of a profile make nothing
pub nothing-applied : (profile : Profile) → IsProfile profile → (tiv : ℕ) (carry : Carry) → total carry ≡ 0 → carry ≡ applied profile tiv carry
nothing-applied profile is tiv carry none = same carry (applied profile tiv carry) none (keeps-rule_of profile.rule profile tiv carry (shares_of profile is) ∙ none)
  where
    same : (one other : Carry) → total one ≡ 0 → total other ≡ 0 → one ≡ other
    same one other first second =
        let loss : one.loss ≡ other.loss = omega (arith, first, second) in
        let ded : one.ded ≡ other.ded = omega (arith, first, second) in
        let over : one.over ≡ other.over = omega (arith, first, second) in
        let kept : one.kept ≡ other.kept = omega (arith, first, second) in
        λ i. record { loss = loss i; ded = ded i; over = over i; kept = kept i }
