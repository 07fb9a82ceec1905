-- Lanes that are put in the order of places where they stand.
use Rattle.std.proofs.Common.{◌≡◌, ◌≢◌, ◌⊎◌, ℕ, ◌+◌, ◌<◌, ◌≤◌, List, [], length, replicate, slice_index, slice_index_or, slice_set, take, inl, inr, refl, sym, ap, subst, ◌∙◌, arith}
use Rattle.std.proofs.lemmas.List.{ext_get_or, get_or-map, get_or-replicate, get_or-set_other, get_or-set_same, get_or-take, length-map, length-replicate, length-set, length-take-le}
use Rattle.std.proofs.lemmas.Bool.{cases_eq, cases_lt}
use Rattle.std.proofs.lemmas.List.Elements.{All-map}
use Rattle.kt_lanes.specs.Lanes.{AreWide}
use Rattle.kt_lanes.specs.Places.{AreOwners, ArePlaces, AreTurning, lanes_at}

-- ---- whose place is that of a lane

-- the same of the first so many places
pub record AreFound (lanes : ℕ) (places : List ℕ) (at : ℕ) (owners : List ℕ) : Type 0 where
  pub many : length owners ≡ lanes
  pub own : (k : ℕ) → k < at → slice_index owners (slice_index places k) ≡ k
  pub back : (place : ℕ) → place < lanes → slice_index owners place < length places → slice_index places (slice_index owners place) ≡ place

pub found-start : (lanes : ℕ) (places : List ℕ) → AreFound lanes places 0 (replicate lanes (length places))
found-start lanes places = record {
  many = length-replicate {A = ℕ} lanes (length places);
  own = λ k below. absurd (omega (arith, below));
  back = λ place inside less. absurd (omega (arith, less, get_or-replicate lanes place (length places) 0 inside));
}

pub found-more : (lanes : ℕ) (places : List ℕ) (at : ℕ) (owners : List ℕ) → at < length places → slice_index places at < lanes → length places ≤ slice_index owners (slice_index places at) → AreFound lanes places at owners → AreFound lanes places (at + 1) (slice_set owners (slice_index places at) at)
found-more lanes places at owners inside within free found = record {
  many = length-set owners here at ∙ found.many;
  own = λ k below. own k below (cases_eq k at);
  back = λ place below less. back place below less (cases_eq place here);
}
  where
    here : ℕ
    here = slice_index places at

    now : List ℕ
    now = slice_set owners here at

    put : slice_index now here ≡ at
    put = get_or-set_same owners here at 0 (omega (arith, within, found.many))

    own : (k : ℕ) → k < at + 1 → (k ≡ at) ⊎ (k ≢ at) → slice_index now (slice_index places k) ≡ k
    own k below (inl same) = subst (λ (n : ℕ). slice_index now (slice_index places n) ≡ n) (sym same) put
    own k below (inr differ) =
        let less : k < at = omega (arith, below, differ) in
        let had = found.own k less in
        get_or-set_other owners here (slice_index places k) at 0 (λ same. absurd (omega (arith, less, inside, free, had, ap (slice_index owners) same))) ∙ had

    back : (place : ℕ) → place < lanes → slice_index now place < length places → (place ≡ here) ⊎ (place ≢ here) → slice_index places (slice_index now place) ≡ place
    back place below less (inl same) = ap (λ (n : ℕ). slice_index places (slice_index now n)) same ∙ (ap (slice_index places) put ∙ sym same)
    back place below less (inr differ) =
        let other = get_or-set_other owners here place at 0 differ in
        ap (slice_index places) other ∙ found.back place below (subst (λ (n : ℕ). n < length places) other less)

pub found-end : (lanes : ℕ) (places : List ℕ) (at : ℕ) (owners : List ℕ) → length places ≤ at → AreFound lanes places at owners → AreOwners lanes places owners
found-end lanes places at owners past found = record { many = found.many; own = λ k below. found.own k (omega (arith, below, past)); back = found.back }

-- ---- one place after the other

pub turning-start : (places owners : List ℕ) (lanes : List (List ℕ)) → ArePlaces (length lanes) places → AreOwners (length lanes) places owners → AreTurning places lanes 0 places owners lanes
turning-start places owners lanes within owners_are = record {
  as_many = refl;
  lanes_many = refl;
  within = λ k below. within k 0 below;
  owners_are = owners_are;
  done = λ k below inside. absurd (omega (arith, below));
  holds = λ k below. refl;
}

module _ (first_places : List ℕ) (first_lanes : List (List ℕ)) (at : ℕ) (places owners : List ℕ) (lanes : List (List ℕ)) (turning : AreTurning first_places first_lanes at places owners lanes) where
  -- what was turned by itself
  pub turning-own : AreTurning places lanes at places owners lanes
  turning-own = record {
    as_many = refl;
    lanes_many = refl;
    within = turning.within;
    owners_are = turning.owners_are;
    done = turning.done;
    holds = λ k below. refl;
  }

  module _ (inside : at < length places) where
    abbrev from : ℕ
    from = slice_index places at

    abbrev other : ℕ
    other = slice_index owners at

    own : (k : ℕ) → k < length places → slice_index owners (slice_index places k) ≡ k
    own = turning.owners_are.own

    -- a lane that is in its place stays there
    pub turning-stays : from ≡ at → AreTurning first_places first_lanes (at + 1) places owners lanes
    turning-stays same = record {
      as_many = turning.as_many;
      lanes_many = turning.lanes_many;
      within = turning.within;
      owners_are = turning.owners_are;
      done = λ k below within. done k below within (cases_eq k at);
      holds = turning.holds;
    }
      where
        done : (k : ℕ) → k < at + 1 → k < length places → (k ≡ at) ⊎ (k ≢ at) → slice_index places k ≡ k
        done k below within (inl is) = subst (λ (n : ℕ). slice_index places n ≡ n) (sym is) same
        done k below within (inr differ) = turning.done k (omega (arith, below, differ)) within

    -- only one of the places names a lane
    own-only : (k : ℕ) → k < length places → slice_index places k ≡ at → k ≡ other
    own-only k within is = sym (own k within) ∙ ap (slice_index owners) is

    from-only : (k : ℕ) → k < length places → slice_index places k ≡ from → k ≡ at
    from-only k within is = sym (own k within) ∙ (ap (slice_index owners) is ∙ own at inside)

    module _ (differ : from ≢ at) where
      pub from-inside : from < length lanes
      from-inside = turning.within at inside

      -- a lane that is not stands behind it
      pub from-behind : at < from
      from-behind = by (cases_lt from at)
        where
          by : (from < at) ⊎ (at ≤ from) → at < from
          by (inl less) = let near : from < length places = omega (arith, less, inside) in absurd (differ (from-only from near (turning.done from less near)))
          by (inr more) = omega (arith, more, differ)

      at-inside : at < length lanes
      at-inside = omega (arith, from-behind, from-inside)

      pub at-owned : at < length owners
      at-owned = omega (arith, at-inside, turning.owners_are.many)

      from-owned : from < length owners
      from-owned = omega (arith, from-inside, turning.owners_are.many)

      other-place : other < length places → slice_index places other ≡ at
      other-place less = turning.owners_are.back at at-inside less

      other-differs : other < length places → other ≢ at
      other-differs less same = differ (ap (slice_index places) (sym same) ∙ other-place less)

      abbrev new_places : List ℕ
      new_places = slice_set (slice_set places other from) at at

      abbrev new_owners : List ℕ
      new_owners = slice_set (slice_set owners from other) at at

      abbrev new_lanes : List (List ℕ)
      new_lanes = slice_set (slice_set lanes at (slice_index_or lanes from [])) from (slice_index_or lanes at [])

      places-many : length new_places ≡ length places
      places-many = length-set (slice_set places other from) at at ∙ length-set places other from

      owners-many : length new_owners ≡ length owners
      owners-many = length-set (slice_set owners from other) at at ∙ length-set owners from other

      new-many : length new_lanes ≡ length lanes
      new-many = length-set (slice_set lanes at (slice_index_or lanes from [])) from (slice_index_or lanes at []) ∙ length-set lanes at (slice_index_or lanes from [])

      -- which place each has then
      place-own : slice_index new_places at ≡ at
      place-own = get_or-set_same (slice_set places other from) at at 0 (omega (arith, inside, length-set places other from))

      place-other : other < length places → slice_index new_places other ≡ from
      place-other less = get_or-set_other (slice_set places other from) at other at 0 (other-differs less) ∙ get_or-set_same places other from 0 less

      place-kept : (k : ℕ) → k ≢ at → k ≢ other → slice_index new_places k ≡ slice_index places k
      place-kept k not_at not_other = get_or-set_other (slice_set places other from) at k at 0 not_at ∙ get_or-set_other places other k from 0 not_other

      -- whose each lane is then
      owner-own : slice_index new_owners at ≡ at
      owner-own = get_or-set_same (slice_set owners from other) at at 0 (omega (arith, at-owned, length-set owners from other))

      owner-from : slice_index new_owners from ≡ other
      owner-from = get_or-set_other (slice_set owners from other) at from at 0 differ ∙ get_or-set_same owners from other 0 from-owned

      owner-kept : (place : ℕ) → place ≢ at → place ≢ from → slice_index new_owners place ≡ slice_index owners place
      owner-kept place not_at not_from = get_or-set_other (slice_set owners from other) at place at 0 not_at ∙ get_or-set_other owners from place other 0 not_from

      -- and where each stands
      lane-own : slice_index_or new_lanes at [] ≡ slice_index_or lanes from []
      lane-own =
          get_or-set_other (slice_set lanes at (slice_index_or lanes from [])) from at (slice_index_or lanes at []) [] (λ same. differ (sym same))
          ∙ get_or-set_same lanes at (slice_index_or lanes from []) [] at-inside

      lane-from : slice_index_or new_lanes from [] ≡ slice_index_or lanes at []
      lane-from = get_or-set_same (slice_set lanes at (slice_index_or lanes from [])) from (slice_index_or lanes at []) [] (omega (arith, from-inside, length-set lanes at (slice_index_or lanes from [])))

      lane-kept : (place : ℕ) → place ≢ at → place ≢ from → slice_index_or new_lanes place [] ≡ slice_index_or lanes place []
      lane-kept place not_at not_from =
          get_or-set_other (slice_set lanes at (slice_index_or lanes from [])) from place (slice_index_or lanes at []) [] not_from
          ∙ get_or-set_other lanes at place (slice_index_or lanes from []) [] not_at

      -- what holds of all places holds where it holds of these three kinds of them
      by-kind : (P : ℕ → Type 0) → P at → (other < length places → P other) → ((k : ℕ) → k < length places → k ≢ at → k ≢ other → P k) → (k : ℕ) → k < length places → P k
      by-kind P here there rest k within = by (cases_eq k at) (cases_eq k other)
        where
          by : (k ≡ at) ⊎ (k ≢ at) → (k ≡ other) ⊎ (k ≢ other) → P k
          by (inl same) _ = subst P (sym same) here
          by (inr not_at) (inl same) = subst P (sym same) (there (subst (λ (n : ℕ). n < length places) same within))
          by (inr not_at) (inr not_other) = rest k within not_at not_other

      new-within : (k : ℕ) → k < length places → slice_index new_places k < length lanes
      new-within =
          by-kind (λ (k : ℕ). slice_index new_places k < length lanes) (omega (arith, place-own, at-inside)) (λ less. omega (arith, place-other less, from-inside))
          (λ k within not_at not_other. omega (arith, place-kept k not_at not_other, turning.within k within))

      new-own : (k : ℕ) → k < length places → slice_index new_owners (slice_index new_places k) ≡ k
      new-own =
          by-kind (λ (k : ℕ). slice_index new_owners (slice_index new_places k) ≡ k) (ap (slice_index new_owners) place-own ∙ owner-own) (λ less. ap (slice_index new_owners) (place-other less) ∙ owner-from)
          (λ k within not_at not_other.
          ap (slice_index new_owners) (place-kept k not_at not_other)
          ∙ (owner-kept (slice_index places k) (λ is. not_other (own-only k within is)) (λ is. not_at (from-only k within is)) ∙ own k within))

      new-holds : (k : ℕ) → k < length places → slice_index_or new_lanes (slice_index new_places k) [] ≡ slice_index_or first_lanes (slice_index first_places k) []
      new-holds =
          by-kind (λ (k : ℕ). slice_index_or new_lanes (slice_index new_places k) [] ≡ slice_index_or first_lanes (slice_index first_places k) [])
          (ap (λ (n : ℕ). slice_index_or new_lanes n []) place-own ∙ (lane-own ∙ turning.holds at inside))
          (λ less. ap (λ (n : ℕ). slice_index_or new_lanes n []) (place-other less) ∙ (lane-from ∙ (ap (λ (n : ℕ). slice_index_or lanes n []) (sym (other-place less)) ∙ turning.holds other less)))
          (λ k within not_at not_other.
          ap (λ (n : ℕ). slice_index_or new_lanes n []) (place-kept k not_at not_other)
          ∙ (lane-kept (slice_index places k) (λ is. not_other (own-only k within is)) (λ is. not_at (from-only k within is)) ∙ turning.holds k within))

      new-done : (k : ℕ) → k < length places → k < at + 1 → slice_index new_places k ≡ k
      new-done =
          by-kind (λ (k : ℕ). k < at + 1 → slice_index new_places k ≡ k) (λ below. place-own)
          (λ less below.
          let near : other < at = omega (arith, below, other-differs less) in
          absurd (other-differs less (sym (turning.done other near less) ∙ other-place less)))
          (λ k within not_at not_other below. place-kept k not_at not_other ∙ turning.done k (omega (arith, below, not_at)) within)

      new-back : (place : ℕ) → place < length lanes → slice_index new_owners place < length places → slice_index new_places (slice_index new_owners place) ≡ place
      new-back place below less = by (cases_eq place at) (cases_eq place from)
        where
          by : (place ≡ at) ⊎ (place ≢ at) → (place ≡ from) ⊎ (place ≢ from) → slice_index new_places (slice_index new_owners place) ≡ place
          by (inl same) _ = ap (λ (n : ℕ). slice_index new_places (slice_index new_owners n)) same ∙ (ap (slice_index new_places) owner-own ∙ (place-own ∙ sym same))
          by (inr not_at) (inl same) =
              let few : other < length places = subst (λ (n : ℕ). n < length places) (ap (slice_index new_owners) same ∙ owner-from) less in
              ap (λ (n : ℕ). slice_index new_places (slice_index new_owners n)) same ∙ (ap (slice_index new_places) owner-from ∙ (place-other few ∙ sym same))
          by (inr not_at) (inr not_from) =
              let kept = owner-kept place not_at not_from in
              let few : slice_index owners place < length places = subst (λ (n : ℕ). n < length places) kept less in
              let had = turning.owners_are.back place below few in
              ap (slice_index new_places) kept
              ∙ (place-kept (slice_index owners place) (λ is. not_from (sym had ∙ ap (slice_index places) is))
              (λ is. not_at (sym had ∙ (ap (slice_index places) is ∙ other-place (subst (λ (n : ℕ). n < length places) is few)))) ∙ had)

      -- so one more place is its own
      pub turning-more : AreTurning first_places first_lanes (at + 1) new_places new_owners new_lanes
      turning-more = record {
        as_many = places-many ∙ turning.as_many;
        lanes_many = new-many ∙ turning.lanes_many;
        within = λ k within. subst (λ (n : ℕ). slice_index new_places k < n) (sym new-many) (new-within k (subst (λ (n : ℕ). k < n) places-many within));
        owners_are = record {
          many = owners-many ∙ (turning.owners_are.many ∙ sym new-many);
          own = λ k within. new-own k (subst (λ (n : ℕ). k < n) places-many within);
          back = λ place below less. new-back place (subst (λ (n : ℕ). place < n) new-many below) (subst (λ (n : ℕ). slice_index new_owners place < n) places-many less);
        };
        done = λ k below within. new-done k (subst (λ (n : ℕ). k < n) places-many within) below;
        holds = λ k within. new-holds k (subst (λ (n : ℕ). k < n) places-many within);
      }

-- ---- all of them

pub turning-end : (first_places : List ℕ) (first_lanes : List (List ℕ)) (at : ℕ) (places owners : List ℕ) (lanes : List (List ℕ)) → length first_places ≤ at → length first_places ≤ length lanes → AreTurning first_places first_lanes at places owners lanes → take (length first_places) lanes ≡ lanes_at first_lanes first_places
turning-end first_places first_lanes at places owners lanes past few turning =
    ext_get_or [] (take (length first_places) lanes) (lanes_at first_lanes first_places)
    (length-take-le (length first_places) lanes few ∙ sym (length-map first_places (λ (place : ℕ). slice_index_or first_lanes place [])))
    (λ k below.
    let inside : k < length first_places = omega (arith, below, length-take-le (length first_places) lanes few) in
    let within : k < length places = omega (arith, inside, turning.as_many) in
    get_or-take (length first_places) lanes k [] inside
    ∙ (ap (λ (n : ℕ). slice_index_or lanes n []) (sym (turning.done k (omega (arith, inside, past)) within))
    ∙ (turning.holds k within ∙ sym (get_or-map (λ (place : ℕ). slice_index_or first_lanes place []) first_places k 0 [] inside))))

-- lanes in places are as wide as all
pub places-wide : (width : ℕ) (lanes : List (List ℕ)) (places : List ℕ) → ArePlaces (length lanes) places → AreWide width lanes → AreWide width (lanes_at lanes places)
places-wide width lanes places within wide = All-map (λ (lane : List ℕ). length lane ≡ width) (λ (place : ℕ). slice_index_or lanes place []) places (λ k d below. wide (slice_index_or places k d) [] (within k d below))
