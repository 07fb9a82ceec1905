-- The ids of some, rising: of those that pass a test, and with one more behind them.
use Rattle.std.proofs.Common.{◌≡◌, ℕ, ◌+◌, ◌<◌, ◌≤◌, Bool, true, false, List, [], ◌∷◌, ◌++◌, get_or, length, map, take, nat_eq, sym, subst, ap, ◌∙◌, refl, append-nil, append_assoc, arith}
use Rattle.std.specs.Prelude.{◌&&◌, ◌||◌}
use Rattle.std.specs.Cmp.{nat_eq_equiv}
use Rattle.std.specs.List.{AllByRecursion, filter, list_any}
use Rattle.std.proofs.lemmas.Bool.{eqb-true, or_left, or_right}
use Rattle.std.proofs.lemmas.List.{map_more}
use Rattle.std.proofs.lemmas.List.Folds.{list_any-append}
use Rattle.kt_rec.specs.Members.{member-filter}
use Rattle.kt_rec.specs.Sums.{each_then}
use Rattle.kt_rec.specs.Rising.{IsRising, rising, rising-member, rising-rises, rising-unique}
use Rattle.kt_rec.specs.RisingLaws.{rising-filter}
use Rattle.kt_structure.specs.declared.links.Link.{Link}
use Rattle.kt_structure.proofs.LinkLemmas.{both-hold, or_none}

-- those that pass a test, rising, are among the rising ones that pass another that follows from it
pub rising-among : (one other : ℕ → Bool) → ((id : ℕ) → one id ≡ true → other id ≡ true) → (ids : List ℕ) → rising (filter one ids) ≡ filter one (rising (filter other ids))
rising-among one other follows ids = rising-unique (rising (filter one ids)) (filter one (rising (filter other ids))) (rising-rises (filter one ids)) (rising-filter one (rising (filter other ids)) (rising-rises (filter other ids))) same
  where
    both : (id : ℕ) (b member : Bool) → one id ≡ b → (b && member) ≡ (b && (other id && member))
    both id true member is = ap (λ c. c && member) (sym (follows id is))
    both id false member is = refl

    same : (id : ℕ) → list_any (nat_eq id) (rising (filter one ids)) ≡ list_any (nat_eq id) (filter one (rising (filter other ids)))
    same id =
        rising-member (filter one ids) id
        ∙ (member-filter one id ids
        ∙ (both id (one id) (list_any (nat_eq id) ids) refl
        ∙ sym (member-filter one id (rising (filter other ids)) ∙ ap (λ b. one id && b) (rising-member (filter other ids) id ∙ member-filter other id ids))))

-- ---- one more behind others

-- one that is among them already changes nothing
rising-again : (ids : List ℕ) (id : ℕ) → list_any (nat_eq id) ids ≡ true → rising (ids ++ id ∷ []) ≡ rising ids
rising-again ids id member = rising-unique (rising (ids ++ id ∷ [])) (rising ids) (rising-rises (ids ++ id ∷ [])) (rising-rises ids) same
  where
    by : (other : ℕ) (b : Bool) → nat_eq other id ≡ b → (list_any (nat_eq other) ids || (b || false)) ≡ list_any (nat_eq other) ids
    by other false is = or_none (list_any (nat_eq other) ids)
    by other true is = let found : list_any (nat_eq other) ids ≡ true = ap (λ n. list_any (nat_eq n) ids) (eqb-true other id is) ∙ member in rw found refl

    same : (other : ℕ) → list_any (nat_eq other) (rising (ids ++ id ∷ [])) ≡ list_any (nat_eq other) (rising ids)
    same other =
        rising-member (ids ++ id ∷ []) other
        ∙ (list_any-append (nat_eq other) ids (id ∷ [])
        ∙ (by other (nat_eq other id) refl
        ∙ sym (rising-member ids other)))

-- rising ids with one above all behind them rise
push-rises : (id : ℕ) (ids : List ℕ) → IsRising ids → AllByRecursion (λ other. other < id) ids → IsRising (ids ++ id ∷ [])
unfolding IsRising
push-rises id [] rises above = (tt, tt)
push-rises id (first ∷ ids) rises above = (both-hold (λ other. first < other) ids (id ∷ []) rises.0 (above.0, tt), push-rises id ids rises.1 above.1)

-- one that is above all stands behind them
rising-above : (ids : List ℕ) (id : ℕ) → AllByRecursion (λ other. other < id) (rising ids) → rising (ids ++ id ∷ []) ≡ rising ids ++ id ∷ []
rising-above ids id above = rising-unique (rising (ids ++ id ∷ [])) (rising ids ++ id ∷ []) (rising-rises (ids ++ id ∷ [])) (push-rises id (rising ids) (rising-rises ids) above) same
  where
    same : (other : ℕ) → list_any (nat_eq other) (rising (ids ++ id ∷ [])) ≡ list_any (nat_eq other) (rising ids ++ id ∷ [])
    same other =
        rising-member (ids ++ id ∷ []) other
        ∙ (list_any-append (nat_eq other) ids (id ∷ [])
        ∙ (ap (λ b. b || list_any (nat_eq other) (id ∷ [])) (sym (rising-member ids other))
        ∙ sym (list_any-append (nat_eq other) (rising ids) (id ∷ []))))

-- ---- the children of links, pushed one by one

-- those of the first links
abbrev pub children_upto : List Link → ℕ → List ℕ
children_upto links place = map (λ (link : Link). link.child) (take place links)

-- those of the links so far stand, rising, behind others; all are below a floor, and one is the number before it
pub record ArePushed (before : List ℕ) (links : List Link) (place floor : ℕ) (now : List ℕ) : Type 0 where
  pub are : now ≡ before ++ rising (children_upto links place)
  pub under : AllByRecursion (λ id. id < floor) (rising (children_upto links place))
  pub reached : (last : ℕ) → last + 1 ≡ floor → list_any (nat_eq last) (children_upto links place) ≡ true

pub pushed-none : (before : List ℕ) (links : List Link) → ArePushed before links 0 0 before
pushed-none before links = record { are = sym (append-nil before); under = tt; reached = λ last is. absurd (omega (arith, is)) }

module _ (before : List ℕ) (links : List Link) (place floor : ℕ) (now : List ℕ) (none : Link) (inside : place < length links) (so_far : ArePushed before links place floor now) where
  abbrev child : ℕ
  child = (get_or links place none).child

  more_is : children_upto links (place + 1) ≡ children_upto links place ++ child ∷ []
  more_is = map_more (λ (link : Link). link.child) links place none inside

  -- one that is not below the floor stands behind them
  pub pushed-more : (more : List ℕ) → floor ≤ child → more ≡ now ++ child ∷ [] → ArePushed before links (place + 1) (child + 1) more
  pushed-more more least pushed =
      let all = each_then (λ id. id < floor) (λ id. id < child) (λ id less. omega arith) (rising (children_upto links place)) so_far.under in
      let rises : rising (children_upto links (place + 1)) ≡ rising (children_upto links place) ++ child ∷ [] = ap rising more_is ∙ rising-above (children_upto links place) child all in
      record {
        are =
            pushed
            ∙ (ap (λ ids. ids ++ child ∷ []) so_far.are
            ∙ (append_assoc before (rising (children_upto links place)) (child ∷ [])
            ∙ ap (λ ids. before ++ ids) (sym rises)));
        under = subst (AllByRecursion (λ id. id < child + 1)) (sym rises) (both-hold (λ id. id < child + 1) (rising (children_upto links place)) (child ∷ []) (each_then (λ id. id < child) (λ id. id < child + 1) (λ id less. omega arith) (rising (children_upto links place)) all) (omega arith, tt));
        reached = λ last is.
            let same : last ≡ child = omega (arith, is) in
            let own : nat_eq last child ≡ true = ap (λ n. nat_eq n child) same ∙ nat_eq_equiv.refl child in
            ap (list_any (nat_eq last)) more_is ∙ (list_any-append (nat_eq last) (children_upto links place) (child ∷ []) ∙ or_right (list_any (nat_eq last) (children_upto links place)) (nat_eq last child || false) (or_left (nat_eq last child) false own));
      }

  -- the number before the floor is there already
  pub pushed-same : child + 1 ≡ floor → ArePushed before links (place + 1) floor now
  pushed-same is =
      let rises : rising (children_upto links (place + 1)) ≡ rising (children_upto links place) = ap rising more_is ∙ rising-again (children_upto links place) child (so_far.reached child is) in
      record {
        are = so_far.are ∙ ap (λ ids. before ++ ids) (sym rises);
        under = subst (AllByRecursion (λ id. id < floor)) (sym rises) so_far.under;
        reached = λ last same. ap (list_any (nat_eq last)) more_is ∙ (list_any-append (nat_eq last) (children_upto links place) (child ∷ []) ∙ or_left (list_any (nat_eq last) (children_upto links place)) (nat_eq last child || false) (so_far.reached last same));
      }

-- what stood before stays in front
pub front-stays : (before rest now : List ℕ) → now ≡ before ++ rest → take (length before) now ≡ before
front-stays before rest now is = ap (take (length before)) is ∙ front before
  where
    front : (before : List ℕ) → take (length before) (before ++ rest) ≡ before
    front [] = refl
    front (id ∷ before) = ap (λ ids. id ∷ ids) (front before)
