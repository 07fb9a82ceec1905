-- The parts of an event list: their ends rise, and they follow one another without a gap.
use Rattle.std.proofs.Common.{◌≡◌, ℕ, zero, suc, ◌+◌, ◌-◌, ◌*◌, ◌/◌, ◌<◌, ◌≤◌, List, [], ◌∷◌, ◌++◌, length, take, drop, sym, ap, subst, ◌∙◌, arith}
use Rattle.std.specs.List.{flat_map, range_with_len}
use Rattle.std.proofs.Math.Nat.{div-le_self, div-le_of_le-mul, div-mul-le_self, mul-div_cancel_left}
use Rattle.std.proofs.lemmas.Nat.{le-div, mul-le}
use Rattle.std.proofs.lemmas.List.{append-nil, map-id, take-append-drop, take-take, take_all, drop-append-le, length-take-le}
use Rattle.std.proofs.lemmas.List.FromFn.{map-range_with_len_more}
use Rattle.std.proofs.lemmas.List.Concat.{flat_map-append}
use Rattle.std.proofs.lemmas.Slice.{between_is}
use Rattle.kt_eve.specs.Parts.{end_of_part, part_of}
use Rattle.kt_eve.specs.Laws.{parts_up_to}

-- the slice between the ends of two neighbours is the part between them
pub part-slice : (events : List ℕ) (p n start end : ℕ) → start ≡ end_of_part (length events) (p - 1) n → end ≡ end_of_part (length events) p n → take (end - start) (drop start events) ≡ part_of events p n
part-slice events p n start end starts ends = rw starts (rw ends (between_is events (end_of_part (length events) (p - 1) n) (end_of_part (length events) p n)))

-- a quotient rises with what is divided
pub div-rises : (a b n : ℕ) → 0 < n → a ≤ b → a / n ≤ b / n
div-rises a b n some le = le-div (a / n) b n some (omega (arith, div-mul-le_self a n))

-- the end of a part lies not before that of an earlier one
pub end-rises : (events p q n : ℕ) → 1 ≤ n → p ≤ q → end_of_part events p n ≤ end_of_part events q n
end-rises events p q n some le = div-rises (p * events) (q * events) n (omega arith) (mul-le p events q events le (omega arith))

-- no part holds no event
pub end-zero : (events n : ℕ) → end_of_part events 0 n ≡ 0
end-zero events n = omega (arith, div-le_self (0 * events) n)

-- the end of a part lies in the list
pub end-within : (events p n : ℕ) → p ≤ n → end_of_part events p n ≤ events
end-within events p n le = div-le_of_le-mul n (mul-le p events n events le (omega arith))

-- the next part begins at the end of the one before
pub next-part : (events : List ℕ) (p n : ℕ) → part_of events (p + 1) n ≡ drop (end_of_part (length events) p n) (take (end_of_part (length events) (p + 1) n) events)
next-part events p n =
    let before : p + 1 - 1 ≡ p = omega arith in
    ap (λ (k : ℕ). drop (end_of_part (length events) k n) (take (end_of_part (length events) (p + 1) n) events)) before

-- a front, and what follows it in a longer front, are the longer front
pub fronts-join : (events : List ℕ) (a b : ℕ) → a ≤ b → take a events ++ drop a (take b events) ≡ take b events
fronts-join events a b le = ap (λ (front : List ℕ). front ++ drop a (take b events)) (sym (take-take a b events le)) ∙ take-append-drop a (take b events)

-- two slices that meet are one
pub slices-join : (events : List ℕ) (a b c : ℕ) → a ≤ b → b ≤ c → b ≤ length events → drop a (take b events) ++ drop b (take c events) ≡ drop a (take c events)
slices-join events a b c first second within =
    let reaches : a ≤ length (take b events) = omega (arith, length-take-le b events within) in
    sym (drop-append-le a (take b events) (drop b (take c events)) reaches) ∙ ap (λ (front : List ℕ). drop a front) (fronts-join events b c second)

-- one more part number
pub numbers_more : (p : ℕ) → range_with_len 1 (p + 1) ≡ range_with_len 1 p ++ (p + 1) ∷ []
numbers_more p =
    sym (map-id (range_with_len 1 (p + 1)))
    ∙ map-range_with_len_more (λ (k : ℕ). k) 1 p (p + 1) (omega arith)
    ∙ ap (λ (numbers : List ℕ). numbers ++ (p + 1) ∷ []) (map-id (range_with_len 1 p))

-- one more part behind the first p
pub parts_more : (events : List ℕ) (p n : ℕ) → parts_up_to events (p + 1) n ≡ parts_up_to events p n ++ part_of events (p + 1) n
parts_more events p n =
    let one_part = λ (k : ℕ). part_of events k n in
    ap (flat_map one_part) (numbers_more p)
    ∙ flat_map-append one_part (range_with_len 1 p) ((p + 1) ∷ [])
    ∙ ap (λ (last : List ℕ). parts_up_to events p n ++ last) (append-nil (part_of events (p + 1) n))

-- one more part behind a front makes the longer front
pub front_more : (events : List ℕ) (p n : ℕ) → 1 ≤ n → parts_up_to events p n ≡ take (end_of_part (length events) p n) events → parts_up_to events (p + 1) n ≡ take (end_of_part (length events) (p + 1) n) events
front_more events p n some front =
    parts_more events p n
    ∙ ap (λ (parts : List ℕ). parts ++ part_of events (p + 1) n) front
    ∙ ap (λ (last : List ℕ). take (end_of_part (length events) p n) events ++ last) (next-part events p n)
    ∙ fronts-join events (end_of_part (length events) p n) (end_of_part (length events) (p + 1) n) (end-rises (length events) p (p + 1) n some (omega arith))

-- the first p parts make a front of the list
pub parts-front : (events : List ℕ) (p n : ℕ) → 1 ≤ n → parts_up_to events p n ≡ take (end_of_part (length events) p n) events
parts-front events zero n some = sym (ap (λ (count : ℕ). take count events) (end-zero (length events) n))
parts-front events (suc p) n some =
    let one_more : p + 1 ≡ suc p = omega arith in
    subst (λ (last : ℕ). parts_up_to events last n ≡ take (end_of_part (length events) last n) events) one_more (front_more events p n some (parts-front events p n some))

-- all parts make the list
pub parts-whole : (events : List ℕ) (n : ℕ) → 1 ≤ n → parts_up_to events n n ≡ events
parts-whole events n some =
    let whole : end_of_part (length events) n n ≡ length events = mul-div_cancel_left (length events) (omega arith) in
    parts-front events n n some ∙ ap (λ (count : ℕ). take count events) whole ∙ take_all (length events) events (omega arith)

-- a part and the next one are one slice
pub parts-meet : (events : List ℕ) (p n : ℕ) → 1 ≤ p → p + 1 ≤ n → part_of events p n ++ part_of events (p + 1) n ≡ drop (end_of_part (length events) (p - 1) n) (take (end_of_part (length events) (p + 1) n) events)
parts-meet events p n first last =
    ap (λ (next : List ℕ). part_of events p n ++ next) (next-part events p n)
    ∙ slices-join events (end_of_part (length events) (p - 1) n) (end_of_part (length events) p n) (end_of_part (length events) (p + 1) n)
    (end-rises (length events) (p - 1) p n (omega arith) (omega arith)) (end-rises (length events) p (p + 1) n (omega arith) (omega arith))
    (end-within (length events) p n (omega arith))
