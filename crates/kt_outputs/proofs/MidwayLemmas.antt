-- A text that is appended in blocks.
use Rattle.std.proofs.Common.{◌≡◌, ℕ, zero, suc, ◌+◌, ◌<◌, ◌≤◌, arith, List, [], ◌∷◌, ◌++◌, length, drop, get_or, Option, Result, Ok, Err, OnOk, refl, sym, ap, ◌∙◌, append_assoc, add-one, drop-cons}
use Rattle.std.proofs.lemmas.List.{append-nil}
use Rattle.kt_out.specs.Appending.{AppendsText, AppendsFront, AppendsAll, appends_twice, appends_nothing}
use Rattle.kt_out.specs.NamedFiles.{FileMap}
use Rattle.kt_outputs.specs.Midway.{IsMidway, Spills}
use Rattle.kt_outputs.specs.Texts.{joined}

-- nothing is added yet, nothing is pending, and the whole is to come
pub midway_begins : (files : Option FileMap) (name whole pending : List ℕ) → pending ≡ [] → IsMidway files files name whole pending whole
midway_begins files name whole pending none = record {
  front = [];
  is_whole = ap (λ (text : List ℕ). text ++ whole) (sym none);
  added = appends_nothing files name;
}

-- what was pending is added
pub midway_spilled : (before between after : Option FileMap) (name whole pending rest : List ℕ) → IsMidway before between name whole pending rest → AppendsText between after name pending → IsMidway before after name whole [] rest
midway_spilled before between after name whole pending rest midway added = record {
  front = midway.front ++ pending;
  is_whole = midway.is_whole ∙ sym (append_assoc midway.front pending rest);
  added = appends_twice before between after name midway.front pending midway.added added;
}

-- some front of what was pending is added
pub spill_stops : (before between after : Option FileMap) (name whole pending rest : List ℕ) → IsMidway before between name whole pending rest → AppendsFront between after name pending → AppendsFront before after name whole
spill_stops before between after name whole pending rest midway some = record {
  front = midway.front ++ some.front;
  rest = some.rest ++ rest;
  is_front =
      midway.is_whole
      ∙ ap (λ (text : List ℕ). midway.front ++ (text ++ rest)) some.is_front
      ∙ ap (λ (text : List ℕ). midway.front ++ text) (append_assoc some.front some.rest rest)
      ∙ sym (append_assoc midway.front some.front (some.rest ++ rest));
  added = appends_twice before between after name midway.front some.front midway.added some.added;
}

-- where it ends there, some front is added
pub midway_front : (before now : Option FileMap) (name whole pending rest : List ℕ) → IsMidway before now name whole pending rest → AppendsFront before now name whole
midway_front before now name whole pending rest midway = record {
  front = midway.front;
  rest = pending ++ rest;
  is_front = midway.is_whole;
  added = midway.added;
}

-- the pieces from a place on: the piece there, and those behind it
pieces_at : (pieces : List (List ℕ)) (i : ℕ) → i < length pieces → joined (drop i pieces) ≡ get_or pieces i [] ++ joined (drop (i + 1) pieces)
pieces_at pieces i within =
    ap (λ (left : List (List ℕ)). joined left) (drop-cons pieces i [] within)
    ∙ ap (λ (place : ℕ). get_or pieces i [] ++ joined (drop place pieces)) (sym (add-one i))

-- one more piece is pending
pub midway_more : (before now : Option FileMap) (name whole pending pushed : List ℕ) (pieces : List (List ℕ)) (i : ℕ) → i < length pieces → IsMidway before now name whole pending (joined (drop i pieces)) → pushed ≡ pending ++ get_or pieces i [] → IsMidway before now name whole pushed (joined (drop (i + 1) pieces))
midway_more before now name whole pending pushed pieces i within midway is = record {
  front = midway.front;
  is_whole =
      midway.is_whole
      ∙ ap (λ (text : List ℕ). midway.front ++ (pending ++ text)) (pieces_at pieces i within)
      ∙ ap (λ (text : List ℕ). midway.front ++ text) (sym (append_assoc pending (get_or pieces i []) (joined (drop (i + 1) pieces))))
      ∙ ap (λ (text : List ℕ). midway.front ++ (text ++ joined (drop (i + 1) pieces))) (sym is);
  added = midway.added;
}

-- a part of no text is none
none_between : (front part rest : List ℕ) → [] ≡ front ++ (part ++ rest) → part ≡ []
none_between [] [] rest none = refl
none_between [] (byte ∷ part) rest none = cc
none_between (byte ∷ front) part rest none = cc

-- of no text nothing is pending
pub none_of_nothing : (before now : Option FileMap) (name whole pending rest : List ℕ) → whole ≡ [] → IsMidway before now name whole pending rest → pending ≡ []
none_of_nothing before now name whole pending rest none midway = none_between midway.front pending rest (sym none ∙ midway.is_whole)

-- behind the last piece there is none
pub none_behind : (pieces : List (List ℕ)) (i : ℕ) → length pieces ≤ i → joined (drop i pieces) ≡ []
none_behind [] zero past = refl
none_behind [] (suc i) past = refl
none_behind (piece ∷ pieces) zero past = absurd (omega (arith, past))
none_behind (piece ∷ pieces) (suc i) past = none_behind pieces i (omega (arith, past))

-- where nothing is pending and nothing is to come, the whole is added
midway_ends : (before now : Option FileMap) (name whole pending rest : List ℕ) → pending ≡ [] → rest ≡ [] → IsMidway before now name whole pending rest → AppendsText before now name whole
midway_ends before now name whole pending rest none last midway =
    let is_front : whole ≡ midway.front =
    midway.is_whole ∙ ap (λ (text : List ℕ). midway.front ++ (text ++ rest)) none ∙ ap (λ (text : List ℕ). midway.front ++ text) last ∙ append-nil midway.front in
    rw is_front midway.added

-- the last spill, behind all pieces
pub last_spill : {T E : Type 0} (before after : Option FileMap) (name whole pending rest : List ℕ) (answer : Result T E) → rest ≡ [] → OnOk answer (pending ≡ []) → Spills before after name whole pending rest answer → AppendsAll before after name whole answer
last_spill before after name whole pending rest (Ok done) last none spills = midway_ends before after name whole pending rest none last spills
last_spill before after name whole pending rest (Err fault) last none spills = spills
