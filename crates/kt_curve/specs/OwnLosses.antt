-- The losses of one set of a perspective among all, as those of another perspective.
-- The rules: docs/CALCULATION.md, "Periods".
use Rattle.std.specs.Prelude.{◌≡◌, ◌&&◌, ◌+◌, ℕ, ℤ, Bool, true, false, List, [], ◌∷◌, ◌++◌, map, max, nat_eq, refl, if◌then◌else◌}
use Rattle.std.specs.List.{flat_map}
use Rattle.std.specs.Ordering.{int_eq}
use Rattle.std.proofs.Common.{sym, subst, ap, ◌∙◌, arith}
use Rattle.std.proofs.lemmas.Bool.{and_parts}
use Rattle.std.proofs.lemmas.Bool.Decides.{Decides-eqb}
use Rattle.std.proofs.lemmas.Grind.{flat_map-append}
use Rattle.std.proofs.lemmas.List.Sums.{sum_by-cons}
use Rattle.kt_rec.specs.declared.periods.Occurrence.{Occurrence}
use Rattle.kt_rec.specs.declared.perspective.CellKey.{CellKey}
use Rattle.kt_rec.specs.declared.perspective.Perspective.{Perspective}
use Rattle.kt_stream.specs.declared.entry.Pair.{Pair}
use Rattle.kt_cell.specs.Sets.{in_set}
use Rattle.kt_curve.specs.Grid.{summary_ids}
use Rattle.kt_cell.specs.Losses.{Added, KeyLoss, all_losses, is_added, key_of, loss_at, losses_of, maximum, pair_losses, same_key, same_perspective, total}
use Rattle.kt_cell.specs.SameKeys.{perspective_same, same_perspective_itself}
use Rattle.kt_rec.specs.Rising.{put}

-- the key of another perspective with the same set, summary, sidx and period
abbrev pub shown_as : Perspective → CellKey → CellKey
shown_as perspective key = key_of perspective key.set key.summary key.sidx key.period

-- the loss, where its key is of a set of a perspective, at the key of another perspective
abbrev pub own_loss : Perspective → ℕ → Perspective → KeyLoss → List KeyLoss
own_loss perspective set other one = if in_set perspective set one.key then record { key = shown_as other one.key; loss = one.loss } ∷ [] else []

-- the losses of a set of a perspective, in their order, as those of another perspective
abbrev pub own_losses : Perspective → ℕ → Perspective → List KeyLoss → List KeyLoss
own_losses perspective set other losses = flat_map (own_loss perspective set other) losses

-- whether a record is of a set of a perspective
abbrev pub is_of : Perspective → ℕ → Added → Bool
is_of perspective set added = same_perspective added.perspective perspective && nat_eq added.set set

-- the record as one of another perspective
abbrev pub added_as : Perspective → Added → Added
added_as perspective added = record { perspective = perspective; set = added.set; entry = added.entry; at = added.at }

-- the record, where it is of a set of a perspective, as one of another perspective
abbrev pub own_record : Perspective → ℕ → Perspective → Added → List Added
own_record perspective set other added = if is_of perspective set added then added_as other added ∷ [] else []

-- the records of a set of a perspective, in their order, as those of another perspective
abbrev pub own_records : Perspective → ℕ → Perspective → List Added → List Added
own_records perspective set other history = flat_map (own_record perspective set other) history

module _ (perspective : Perspective) (set : ℕ) (other : Perspective) where
  -- ---- the losses of records

  -- each occurrence of a pair, by whether its record is of the set
  own_at : (added : Added) (here : Bool) → is_of perspective set added ≡ here → (pair : Pair) (at : List Occurrence) →
      own_losses perspective set other (map (loss_at added.perspective added.set added.entry.summary pair) at) ≡ (if here then map (loss_at other added.set added.entry.summary pair) at else [])
  own_at added true is pair [] = refl
  own_at added true is pair (occurrence ∷ at) =
      let one : KeyLoss = loss_at other added.set added.entry.summary pair occurrence in
      ap (λ (b : Bool). (if b then one ∷ [] else []) ++ own_losses perspective set other (map (loss_at added.perspective added.set added.entry.summary pair) at)) is ∙ ap (λ (rest : List KeyLoss). one ∷ rest) (own_at added true is pair at)
  own_at added false is pair [] = refl
  own_at added false is pair (occurrence ∷ at) =
      let one : KeyLoss = loss_at other added.set added.entry.summary pair occurrence in
      ap (λ (b : Bool). (if b then one ∷ [] else []) ++ own_losses perspective set other (map (loss_at added.perspective added.set added.entry.summary pair) at)) is ∙ own_at added false is pair at

  -- the losses of a pair
  own_pair : (added : Added) (here : Bool) → is_of perspective set added ≡ here → (pair : Pair) →
      own_losses perspective set other (pair_losses added.perspective added.set added.entry.summary added.at pair) ≡ (if here then pair_losses other added.set added.entry.summary added.at pair else [])
  own_pair added here is pair = by here (is_added pair) (own_at added here is pair added.at)
    where
      by : (here some : Bool) → own_losses perspective set other (map (loss_at added.perspective added.set added.entry.summary pair) added.at) ≡ (if here then map (loss_at other added.set added.entry.summary pair) added.at else []) →
          own_losses perspective set other (if some then map (loss_at added.perspective added.set added.entry.summary pair) added.at else []) ≡ (if here then (if some then map (loss_at other added.set added.entry.summary pair) added.at else []) else [])
      by here true are = are
      by true false are = refl
      by false false are = refl

  -- the losses of a record
  own_pairs : (added : Added) (here : Bool) → is_of perspective set added ≡ here → (pairs : List Pair) →
      own_losses perspective set other (flat_map (pair_losses added.perspective added.set added.entry.summary added.at) pairs) ≡ (if here then flat_map (pair_losses other added.set added.entry.summary added.at) pairs else [])
  own_pairs added true is [] = refl
  own_pairs added false is [] = refl
  own_pairs added here is (pair ∷ pairs) =
      flat_map-append (own_loss perspective set other) (pair_losses added.perspective added.set added.entry.summary added.at pair) (flat_map (pair_losses added.perspective added.set added.entry.summary added.at) pairs)
      ∙ (ap (λ (front : List KeyLoss). front ++ own_losses perspective set other (flat_map (pair_losses added.perspective added.set added.entry.summary added.at) pairs)) (own_pair added here is pair)
      ∙ (ap (λ (rest : List KeyLoss). (if here then pair_losses other added.set added.entry.summary added.at pair else []) ++ rest) (own_pairs added here is pairs)
      ∙ joined here))
    where
      joined : (here : Bool) → (if here then pair_losses other added.set added.entry.summary added.at pair else []) ++ (if here then flat_map (pair_losses other added.set added.entry.summary added.at) pairs else []) ≡ (if here then flat_map (pair_losses other added.set added.entry.summary added.at) (pair ∷ pairs) else [])
      joined true = refl
      joined false = refl

  own_added : (added : Added) → own_losses perspective set other (losses_of added) ≡ all_losses (own_record perspective set other added)
  own_added added = own_pairs added (is_of perspective set added) refl added.entry.pairs ∙ by (is_of perspective set added)
    where
      by : (here : Bool) → (if here then losses_of (added_as other added) else []) ≡ all_losses (if here then added_as other added ∷ [] else [])
      by true = sym (nothing_behind (losses_of (added_as other added)))
        where
          nothing_behind : (losses : List KeyLoss) → losses ++ [] ≡ losses
          nothing_behind [] = refl
          nothing_behind (one ∷ losses) = ap (λ (rest : List KeyLoss). one ∷ rest) (nothing_behind losses)
      by false = refl

  -- the set's losses among those of records are those of its records
  pub own_all : (history : List Added) → own_losses perspective set other (all_losses history) ≡ all_losses (own_records perspective set other history)
  own_all [] = refl
  own_all (added ∷ later) =
      flat_map-append (own_loss perspective set other) (losses_of added) (all_losses later)
      ∙ (ap (λ (front : List KeyLoss). front ++ own_losses perspective set other (all_losses later)) (own_added added)
      ∙ (ap (λ (rest : List KeyLoss). all_losses (own_record perspective set other added) ++ rest) (own_all later)
      ∙ sym (flat_map-append losses_of (own_record perspective set other added) (own_records perspective set other later))))

  -- ---- their keys

  -- a key of the set, and one of the other perspective that matches the same losses of the set
  pub record Matches (key shown : CellKey) : Type 0 where
    pub of_set : (one : CellKey) → in_set perspective set one ≡ true → same_key (shown_as other one) shown ≡ same_key one key
    pub of_others : (one : CellKey) → in_set perspective set one ≡ false → same_key one key ≡ false

  -- the same summary, sidx and period in both perspectives
  pub key_matches : (summary : ℕ) (sidx : ℤ) (period : ℕ) → Matches (key_of perspective set summary sidx period) (key_of other set summary sidx period)
  key_matches summary sidx period = record {
    of_set = λ one is. let parts = and_parts (same_perspective one.perspective perspective) (nat_eq one.set set) is in alike (same_perspective other other) (same_perspective one.perspective perspective) (nat_eq one.set set && (nat_eq one.summary summary && (int_eq one.sidx sidx && nat_eq one.period period))) (same_perspective_itself other) parts.0;
    of_others = λ one is_not. unlike (same_perspective one.perspective perspective) (nat_eq one.set set) (nat_eq one.summary summary && (int_eq one.sidx sidx && nat_eq one.period period)) is_not;
  }
    where
      alike : (a b c : Bool) → a ≡ true → b ≡ true → (a && c) ≡ (b && c)
      alike a b c is also = ap (λ (x : Bool). x && c) (is ∙ sym also)

      unlike : (a b c : Bool) → (a && b) ≡ false → (a && (b && c)) ≡ false
      unlike true b c is = ap (λ (x : Bool). x && c) is
      unlike false b c is = refl

  -- a key of the set, and what it is shown as
  pub own_key_matches : (key : CellKey) → in_set perspective set key ≡ true → Matches key (shown_as other key)
  own_key_matches key is =
      let parts = and_parts (same_perspective key.perspective perspective) (nat_eq key.set set) is in
      let here : key.perspective ≡ perspective = perspective_same key.perspective perspective parts.0 in
      let there : key.set ≡ set = (Decides-eqb key.set set).0 parts.1 in
      subst (λ (p : Perspective). Matches (key_of p key.set key.summary key.sidx key.period) (shown_as other key)) (sym here)
      (subst (λ (s : ℕ). Matches (key_of perspective s key.summary key.sidx key.period) (key_of other s key.summary key.sidx key.period)) (sym there) (key_matches key.summary key.sidx key.period))

  -- ---- totals and maxima

  -- the total of a key of the set
  pub own_total : (losses : List KeyLoss) (key shown : CellKey) → Matches key shown → total (own_losses perspective set other losses) shown ≡ total losses key
  own_total [] key shown matches = refl
  own_total (one ∷ losses) key shown matches = by (in_set perspective set one.key) refl (own_total losses key shown matches) ∙ sym (sum_by-cons (λ (x : KeyLoss). if same_key x.key key then x.loss else 0) one losses)
    where
      by : (here : Bool) → in_set perspective set one.key ≡ here → total (own_losses perspective set other losses) shown ≡ total losses key →
          total ((if here then record { key = shown_as other one.key; loss = one.loss } ∷ [] else []) ++ own_losses perspective set other losses) shown ≡ (if same_key one.key key then one.loss else 0) + total losses key
      by true is rest =
          sum_by-cons (λ (x : KeyLoss). if same_key x.key shown then x.loss else 0) (record { key = shown_as other one.key; loss = one.loss }) (own_losses perspective set other losses)
          ∙ (ap (λ (b : Bool). (if b then one.loss else 0) + total (own_losses perspective set other losses) shown) (matches.of_set one.key is)
          ∙ ap (λ (n : ℕ). (if same_key one.key key then one.loss else 0) + n) rest)
      by false is rest =
          let nothing : (if same_key one.key key then one.loss else 0) ≡ 0 = ap (λ (b : Bool). if b then one.loss else 0) (matches.of_others one.key is) in
          omega (arith, nothing, rest)

  -- the maximum of a key of the set
  pub own_maximum : (losses : List KeyLoss) (key shown : CellKey) → Matches key shown → maximum (own_losses perspective set other losses) shown ≡ maximum losses key
  own_maximum [] key shown matches = refl
  own_maximum (one ∷ losses) key shown matches = by (in_set perspective set one.key) refl (own_maximum losses key shown matches)
    where
      none : (n : ℕ) → max 0 n ≡ n
      none n = omega arith

      by : (here : Bool) → in_set perspective set one.key ≡ here → maximum (own_losses perspective set other losses) shown ≡ maximum losses key →
          maximum ((if here then record { key = shown_as other one.key; loss = one.loss } ∷ [] else []) ++ own_losses perspective set other losses) shown ≡ max (if same_key one.key key then one.loss else 0) (maximum losses key)
      by true is rest =
          ap (λ (b : Bool). max (if b then one.loss else 0) (maximum (own_losses perspective set other losses) shown)) (matches.of_set one.key is)
          ∙ ap (λ (n : ℕ). max (if same_key one.key key then one.loss else 0) n) rest
      by false is rest =
          let nothing : (if same_key one.key key then one.loss else 0) ≡ 0 = ap (λ (b : Bool). if b then one.loss else 0) (matches.of_others one.key is) in
          rest ∙ sym (ap (λ (n : ℕ). max n (maximum losses key)) nothing ∙ none (maximum losses key))

  -- ---- summaries

  -- the summary ids of the set
  pub own_ids : (losses : List KeyLoss) → summary_ids other set (map (λ one. one.key) (own_losses perspective set other losses)) ≡ summary_ids perspective set (map (λ one. one.key) losses)
  own_ids [] = refl
  own_ids (one ∷ losses) = by (in_set perspective set one.key) refl (own_ids losses)
    where
      by : (here : Bool) → in_set perspective set one.key ≡ here → summary_ids other set (map (λ x. x.key) (own_losses perspective set other losses)) ≡ summary_ids perspective set (map (λ x. x.key) losses) →
          summary_ids other set (map (λ x. x.key) ((if here then record { key = shown_as other one.key; loss = one.loss } ∷ [] else []) ++ own_losses perspective set other losses)) ≡ (if here then put one.key.summary (summary_ids perspective set (map (λ x. x.key) losses)) else summary_ids perspective set (map (λ x. x.key) losses))
      by true is rest =
          let parts = and_parts (same_perspective one.key.perspective perspective) (nat_eq one.key.set set) is in
          ap (λ (b : Bool). if b then put one.key.summary (summary_ids other set (map (λ x. x.key) (own_losses perspective set other losses))) else summary_ids other set (map (λ x. x.key) (own_losses perspective set other losses))) (together (same_perspective other other) (nat_eq one.key.set set) (same_perspective_itself other) parts.1)
          ∙ ap (put one.key.summary) rest
        where
          together : (a b : Bool) → a ≡ true → b ≡ true → (a && b) ≡ true
          together true b is also = also
          together false b is also = is
      by false is rest = rest
