-- The losses of a record, one after the other: what stands after each, the first refusal, and what is noted.
use Rattle.std.proofs.Common.{◌≡◌, ℕ, ◌+◌, ◌<◌, ◌≤◌, List, [], ◌∷◌, ◌++◌, length, refl, sym, ap, ◌∙◌, append_assoc, get_or, take, drop, take-append-drop, append-nil}
use Rattle.std.specs.Prelude.{Option, Some, None, map}
use Rattle.std.specs.List.{flat_map}
use Rattle.std.proofs.lemmas.List.{map-append, take_more}
use Rattle.std.proofs.lemmas.Grind.{flat_map-append}
use Rattle.std.proofs.lemmas.List.Concat.{flat_map-cons}
use Rattle.kt_cell.specs.declared.cell.Cell.{Cell}
use Rattle.kt_cell.specs.declared.cell.Change.{Change}
use Rattle.kt_cell.specs.declared.cell.CellStop.{CellStop}
use Rattle.kt_rec.specs.declared.perspective.CellKey.{CellKey}
use Rattle.kt_cell.specs.Losses.{KeyLoss, Added, all_losses, losses_of, maximum}
use Rattle.kt_cell.specs.Standing.{Standing, stop_at, first_stop, or_else}
use Rattle.kt_period_cells.specs.Journal.{loss_of, noted_losses, Recalls, Going, Returns}

-- the first of three causes
or_else_else : (a b c : Option CellStop) → or_else (or_else a b) c ≡ or_else a (or_else b c)
or_else_else (Some stop) b c = refl
or_else_else None b c = refl

-- where neither of two causes stops, none does
pub neither_stops : (first second : Option CellStop) → or_else first second ≡ None → (first ≡ None) × (second ≡ None)
neither_stops None second none = (refl, none)
neither_stops (Some stop) second none = cc

-- the first refusal among losses and further ones
pub first_stop_append : (before xs ys : List KeyLoss) → first_stop before (xs ++ ys) ≡ or_else (first_stop before xs) (first_stop (before ++ xs) ys)
first_stop_append before [] ys = rw (append-nil before) refl
first_stop_append before (x ∷ xs) ys =
    ap (or_else (stop_at before x)) (first_stop_append (before ++ x ∷ []) xs ys ∙ ap (λ zs. or_else (first_stop (before ++ x ∷ []) xs) (first_stop zs ys)) (append_assoc before (x ∷ []) xs))
    ∙ sym (or_else_else (stop_at before x) (first_stop (before ++ x ∷ []) xs) (first_stop (before ++ x ∷ xs) ys))

-- no refusal, and one more loss without one
pub clear_push : (before done : List KeyLoss) (one : KeyLoss) → first_stop before done ≡ None → stop_at (before ++ done) one ≡ None → first_stop before (done ++ one ∷ []) ≡ None
clear_push before done one clear none =
    first_stop_append before done (one ∷ []) ∙ ap (λ o. or_else o (first_stop (before ++ done) (one ∷ []))) clear ∙ ap (λ o. or_else o None) none

-- no refusal, and one more loss with one
pub stop_push : (before done : List KeyLoss) (one : KeyLoss) (rest : List KeyLoss) (stop : CellStop) → first_stop before done ≡ None → stop_at (before ++ done) one ≡ Some stop → first_stop before (done ++ one ∷ rest) ≡ Some stop
stop_push before done one rest stop clear found =
    first_stop_append before done (one ∷ rest) ∙ ap (λ o. or_else o (first_stop (before ++ done) (one ∷ rest))) clear ∙ ap (λ o. or_else o (first_stop ((before ++ done) ++ one ∷ []) rest)) found

-- a refusal stands whatever follows
pub stop_stays : (before done rest : List KeyLoss) (stop : CellStop) → first_stop before done ≡ Some stop → first_stop before (done ++ rest) ≡ Some stop
stop_stays before done rest stop found =
    first_stop_append before done rest ∙ ap (λ o. or_else o (first_stop (before ++ done) rest)) found

-- one more change is recalled
pub recalls_push : (before : List KeyLoss) (changes : List Change) (change : Change) → Recalls before changes → 1 ≤ change.loss → change.greatest ≡ maximum (before ++ noted_losses changes) change.key → Recalls before (changes ++ change ∷ [])
recalls_push before [] change recalls some greatest = (some, rw (append-nil before) at greatest, tt)
recalls_push before (c ∷ later) change recalls some greatest =
    (recalls.0, recalls.1, recalls_push (before ++ loss_of c ∷ []) later change recalls.2 some (rw (← append_assoc before (loss_of c ∷ []) (noted_losses later)) at greatest))

-- and the last one can be told from the others
pub recalls_pop : (before : List KeyLoss) (changes : List Change) (change : Change) → Recalls before (changes ++ change ∷ []) → Recalls before changes × (1 ≤ change.loss) × (change.greatest ≡ maximum (before ++ noted_losses changes) change.key)
recalls_pop before [] change recalls = (tt, recalls.0, rw (append-nil before) recalls.1)
recalls_pop before (c ∷ later) change recalls =
    let rest = recalls_pop (before ++ loss_of c ∷ []) later change recalls.2 in
    ((recalls.0, recalls.1, rest.0), rest.1, rw (← append_assoc before (loss_of c ∷ []) (noted_losses later)) rest.2)

-- what can be taken back, without the last change
pub returns_pop : (before : List KeyLoss) (changes : List Change) (change : Change) (old new : List (CellKey × Cell)) → Returns before (changes ++ change ∷ []) old →
    ((losses : List KeyLoss) → change.greatest ≡ maximum losses change.key → 1 ≤ change.loss → Standing (losses ++ loss_of change ∷ []) old → Standing losses new) →
    Returns before changes new
returns_pop before changes change old new returns taken =
    let told = recalls_pop before changes change returns.recalls in
    let same : before ++ noted_losses (changes ++ change ∷ []) ≡ (before ++ noted_losses changes) ++ loss_of change ∷ [] =
    ap (λ zs. before ++ zs) (map-append loss_of changes (change ∷ [])) ∙ sym (append_assoc before (noted_losses changes) (loss_of change ∷ [])) in
    record { stands = taken (before ++ noted_losses changes) told.2 told.1 (rw same at returns.stands); recalls = told.0 }

-- what went on until a refusal can be taken back
pub returns_stop : (before done : List KeyLoss) (old new : List Change) (es entries : List (CellKey × Cell)) → Going before done old es → Standing (before ++ done) entries → new ≡ old → Returns before new entries
returns_stop before done old new es entries going stands same =
    record { stands = rw (same, going.noted) stands; recalls = rw same going.recalls }

-- one more loss is in
pub going_push : (before done : List KeyLoss) (one : KeyLoss) (old new : List Change) (es entries : List (CellKey × Cell)) → Going before done old es → 1 ≤ one.loss →
    (stop_at (before ++ done) one ≡ None) × Standing ((before ++ done) ++ one ∷ []) entries →
    new ≡ old ++ (record { key = one.key; loss = one.loss; greatest = maximum (before ++ done) one.key }) ∷ [] →
    Going before (done ++ one ∷ []) new entries
going_push before done one old new es entries going some put noted =
    record {
      stands = rw (append_assoc before done (one ∷ [])) at put.1;
      clear = clear_push before done one going.clear put.0;
      noted = ap noted_losses noted ∙ map-append loss_of old _ ∙ ap (λ zs. zs ++ one ∷ []) going.noted;
      recalls = rw noted (recalls_push before old _ going.recalls some (rw going.noted refl));
    }

-- the losses at one occurrence more
loss_more : {X : Type 0} (f : X → KeyLoss) (xs : List X) (i : ℕ) (d : X) (one : KeyLoss) → i < length xs → f (get_or xs i d) ≡ one → map f (take (i + 1) xs) ≡ map f (take i xs) ++ one ∷ []
loss_more f xs i d one inside is = ap (map f) (take_more xs i d inside) ∙ map-append f (take i xs) (get_or xs i d ∷ []) ∙ ap (λ x. map f (take i xs) ++ x ∷ []) is

-- one occurrence more of a pair is in
pub pair_more : {X : Type 0} (f : X → KeyLoss) (xs : List X) (i : ℕ) (d : X) (one : KeyLoss) (before done : List KeyLoss) (old new : List Change) (es entries : List (CellKey × Cell)) → i < length xs → f (get_or xs i d) ≡ one →
    Going before (done ++ map f (take i xs)) old es → 1 ≤ one.loss →
    (stop_at (before ++ (done ++ map f (take i xs))) one ≡ None) × Standing ((before ++ (done ++ map f (take i xs))) ++ one ∷ []) entries →
    new ≡ old ++ (record { key = one.key; loss = one.loss; greatest = maximum (before ++ (done ++ map f (take i xs))) one.key }) ∷ [] →
    Going before (done ++ map f (take (i + 1) xs)) new entries
pair_more f xs i d one before done old new es entries inside is going some put noted =
    rw (loss_more f xs i d one inside is, ← append_assoc done (map f (take i xs)) (one ∷ [])) (going_push before (done ++ map f (take i xs)) one old new es entries going some put noted)

-- one occurrence more of a pair is refused
pub pair_stop : {X : Type 0} (f : X → KeyLoss) (xs : List X) (i : ℕ) (d : X) (one : KeyLoss) (before done : List KeyLoss) (stop : CellStop) → i < length xs → f (get_or xs i d) ≡ one →
    first_stop before (done ++ map f (take i xs)) ≡ None → stop_at (before ++ (done ++ map f (take i xs))) one ≡ Some stop →
    first_stop before (done ++ map f xs) ≡ Some stop
pair_stop f xs i d one before done stop inside is clear found =
    let here : first_stop before ((done ++ map f (take i xs)) ++ one ∷ []) ≡ Some stop = stop_push before (done ++ map f (take i xs)) one [] stop clear found in
    let same : (done ++ map f (take i xs)) ++ one ∷ [] ≡ done ++ map f (take (i + 1) xs) = append_assoc done (map f (take i xs)) (one ∷ []) ∙ ap (λ zs. done ++ zs) (sym (loss_more f xs i d one inside is)) in
    let whole : (done ++ map f (take (i + 1) xs)) ++ map f (drop (i + 1) xs) ≡ done ++ map f xs =
    append_assoc done (map f (take (i + 1) xs)) (map f (drop (i + 1) xs)) ∙ ap (λ zs. done ++ zs) (sym (map-append f (take (i + 1) xs) (drop (i + 1) xs)) ∙ ap (map f) (take-append-drop (i + 1) xs)) in
    rw whole at (stop_stays before (done ++ map f (take (i + 1) xs)) (map f (drop (i + 1) xs)) stop (rw same at here))

-- a pair of a record is refused
pub record_stop : {X : Type 0} (f : X → List KeyLoss) (xs : List X) (i : ℕ) (d : X) (before further : List KeyLoss) (stop : CellStop) → i < length xs → f (get_or xs i d) ≡ further →
    first_stop before (flat_map f (take i xs) ++ further) ≡ Some stop → first_stop before (flat_map f xs) ≡ Some stop
record_stop f xs i d before further stop inside is found =
    let front : flat_map f (take (i + 1) xs) ≡ flat_map f (take i xs) ++ f (get_or xs i d) = ap (flat_map f) (take_more xs i d inside) ∙ flat_map-append f (take i xs) (get_or xs i d ∷ []) ∙ ap (λ zs. flat_map f (take i xs) ++ zs) (flat_map-cons f (get_or xs i d) [] ∙ append-nil (f (get_or xs i d))) in
    let whole : flat_map f (take (i + 1) xs) ++ flat_map f (drop (i + 1) xs) ≡ flat_map f xs = sym (flat_map-append f (take (i + 1) xs) (drop (i + 1) xs)) ∙ ap (flat_map f) (take-append-drop (i + 1) xs) in
    rw whole at (stop_stays before (flat_map f (take (i + 1) xs)) (flat_map f (drop (i + 1) xs)) stop (rw (front, is) found))

-- the losses of one record more
pub all_losses_push : (history : List Added) (added : Added) → all_losses (history ++ added ∷ []) ≡ all_losses history ++ losses_of added
all_losses_push history added = flat_map-append losses_of history (added ∷ []) ∙ ap (λ zs. all_losses history ++ zs) (flat_map-cons losses_of added [] ∙ append-nil (losses_of added))

-- a pair's losses, where they are added up and where they are not
pub going_pair : {X : Type 0} (f : X → List KeyLoss) (xs : List X) (i : ℕ) (d : X) (before further : List KeyLoss) (changes : List Change) (entries : List (CellKey × Cell)) → i < length xs →
    f (get_or xs i d) ≡ further → Going before (flat_map f (take i xs) ++ further) changes entries → Going before (flat_map f (take (i + 1) xs)) changes entries
going_pair f xs i d before further changes entries inside same going =
    let front : flat_map f (take (i + 1) xs) ≡ flat_map f (take i xs) ++ f (get_or xs i d) = ap (flat_map f) (take_more xs i d inside) ∙ flat_map-append f (take i xs) (get_or xs i d ∷ []) ∙ ap (λ zs. flat_map f (take i xs) ++ zs) (flat_map-cons f (get_or xs i d) [] ∙ append-nil (f (get_or xs i d))) in
    rw (front, same) going

-- a pair that is passed over
pub going_passed : {X : Type 0} (f : X → List KeyLoss) (xs : List X) (i : ℕ) (d : X) (before : List KeyLoss) (changes : List Change) (entries : List (CellKey × Cell)) → i < length xs →
    f (get_or xs i d) ≡ [] → Going before (flat_map f (take i xs)) changes entries → Going before (flat_map f (take (i + 1) xs)) changes entries
going_passed f xs i d before changes entries inside same going =
    going_pair f xs i d before [] changes entries inside same (rw (append-nil (flat_map f (take i xs))) going)
