-- How the pairs of a record are read one after the other.
use Rattle.std.proofs.Common.{◌≡◌, ℕ, suc, ◌+◌, ◌-◌, ◌≤◌, List, [], ◌∷◌, ◌++◌, length, drop, refl, sym, ap, ◌∙◌, append_assoc, arith, add-zero}
use Rattle.std.specs.Prelude.{slice_index, true, false, ◌==◌}
use Rattle.std.proofs.lemmas.Bool.{ne_eqb, eq-eqb, le-leb}
use Rattle.std.proofs.lemmas.List.{drop-drop, length-drop, length-append, append-nil}
use Rattle.kt_stream.specs.declared.entry.Pair.{Pair}
use Rattle.kt_stream.specs.declared.pairs.RawPair.{RawPair}
use Rattle.kt_stream.specs.declared.read.Misfit.{Misfit}
use Rattle.kt_stream.specs.declared.read.Read.{Read}
use Rattle.kt_stream.specs.declared.read.Read.TheVariants.{Got, Short, Wrong}
use Rattle.kt_stream.specs.Pairs.{order_of, sidx_judge, loss_judge, pair_fields, raw_pair, SoundPair, pair_in, signed, in_front, pairs_in, IsNext, AreFirst}
use Rattle.kt_stream.specs.Read.{number_of, Field, field, fields_in}
use Rattle.kt_stream.proofs.Cases.{got_is, bind_got}
use Rattle.kt_stream.proofs.Fields.{field_got}
use Rattle.kt_stream.proofs.PairsRead.{pair_got, order_fits}
use Rattle.kt_stream.proofs.Sidx.{sample_place}

-- nothing in front of values
pub front_none : {A : Type 0} (r : Read (List A) Misfit) → in_front [] r ≡ r
front_none (Got values) = refl
front_none Short = refl
front_none (Wrong m) = refl

-- one value more in front of others
pub front_more : {A : Type 0} (front : List A) (x : A) (r : Read (List A) Misfit) → in_front front (in_front (x ∷ []) r) ≡ in_front (front ++ x ∷ []) r
front_more {A} front x (Got more) = ap (λ (xs : List A). Got xs) (sym (append_assoc front (x ∷ []) more))
front_more front x Short = refl
front_more front x (Wrong m) = refl

-- ---- one pair

-- the two fields of a pair
abbrev sidx_field : ℕ → ℕ → Field Misfit
sidx_field samples least = record { width = 4; judge = λ before at x. sidx_judge samples least at x }

abbrev loss_field : Field Misfit
loss_field = record { width = 8; judge = λ before at x. loss_judge (slice_index before 0) at x }

-- a sound pair is read
sound_read : (samples least : ℕ) (bytes : List ℕ) (at : ℕ) → 12 ≤ length bytes → SoundPair samples least (number_of 4 bytes) (number_of 8 (drop 4 bytes)) at
    → pair_in samples least bytes at ≡ Got (record { word = number_of 4 bytes; loss = number_of 8 (drop 4 bytes) })
unfolding pair_in
sound_read samples least bytes at long sound =
    rw (le-leb 4 (length bytes) (omega arith), sound.sidx_fits, le-leb 8 (length (drop 4 bytes)) (omega (arith, length-drop 4 bytes)), sound.loss_fits) refl

not_zero : (word : ℕ) → word == 0 ≡ false → word ≡ 0 → ⊥
not_zero word other zero = true_is_false (sym (eq-eqb word 0 zero) ∙ other)
  where
    true_is_false : true ≡ false → ⊥
    true_is_false e = cc

-- a sound pair stands at the front of the bytes
pub sound_next : (samples least : ℕ) (bytes : List ℕ) → 12 ≤ length bytes → ((at : ℕ) → SoundPair samples least (number_of 4 bytes) (number_of 8 (drop 4 bytes)) at)
    → IsNext samples least bytes (record { word = number_of 4 bytes; loss = number_of 8 (drop 4 bytes) })
sound_next samples least bytes long sound = record { other = not_zero (number_of 4 bytes) (sound 0).other; read = λ at. sound_read samples least bytes at long (sound at) }

-- a pair that was read, and is not the end pair, is sound
pub read_sound : (samples least : ℕ) (bytes : List ℕ) (at : ℕ) (p : RawPair) → pair_in samples least bytes at ≡ Got p → (p.word ≡ 0 → ⊥) → SoundPair samples least (number_of 4 bytes) (number_of 8 (drop 4 bytes)) at
unfolding pair_in
read_sound samples least bytes at p e other =
    let all = bind_got (fields_in (pair_fields samples least) [] bytes at) (λ values. Got (raw_pair values)) p e in
    let first = bind_got (field (sidx_field samples least) [] bytes at) (λ x. fields_in (loss_field ∷ []) (x ∷ []) (drop 4 bytes) (at + 4)) all.0 all.1 in
    let second = bind_got (field loss_field (first.0 ∷ []) (drop 4 bytes) (at + 4)) (λ y. Got (first.0 ∷ y ∷ [])) all.0 first.2 in
    let sidx = field_got (sidx_field samples least) [] bytes at first.0 first.1 in
    let loss = field_got loss_field (first.0 ∷ []) (drop 4 bytes) (at + 4) second.0 second.1 in
    let values : raw_pair (first.0 ∷ second.0 ∷ []) ≡ p = ap raw_pair (got_is {W = Misfit} (first.0 ∷ second.0 ∷ []) all.0 second.2) ∙ got_is {W = Misfit} (raw_pair all.0) p all.2 in
    let word : number_of 4 bytes ≡ p.word = sym sidx.value ∙ ap (λ (p : RawPair). p.word) values in
    record {
      other = ne_eqb (number_of 4 bytes) 0 (λ zero. other (sym word ∙ zero));
      sidx_fits = ap (sidx_judge samples least at) (sym sidx.value) ∙ sidx.good;
      loss_fits = ap (λ (x : ℕ). loss_judge x (at + 4) (number_of 8 (drop 4 bytes))) (sym sidx.value) ∙ ap (loss_judge first.0 (at + 4)) (sym loss.value) ∙ loss.good;
    }

-- ---- one step

more_step : (n samples least : ℕ) (bytes : List ℕ) (at : ℕ) (p : RawPair) → pair_in samples least bytes at ≡ Got p → (p.word ≡ 0 → ⊥) → pairs_in (suc n) samples least bytes at ≡ in_front (signed p ∷ []) (pairs_in n samples (order_of p.word + 1) (drop 12 bytes) (at + 12))
unfolding pairs_in
more_step n samples least bytes at p e other = rw (e, ne_eqb p.word 0 other) refl

end_step : (n samples least : ℕ) (bytes : List ℕ) (at : ℕ) (p : RawPair) → pair_in samples least bytes at ≡ Got p → p.word ≡ 0 → pairs_in (suc n) samples least bytes at ≡ Got []
unfolding pairs_in
end_step n samples least bytes at p e ended = rw (e, eq-eqb p.word 0 ended) refl

short_step : (n samples least : ℕ) (bytes : List ℕ) (at : ℕ) → pair_in samples least bytes at ≡ Short → pairs_in (suc n) samples least bytes at ≡ Short
unfolding pairs_in
short_step n samples least bytes at e = rw e refl

wrong_step : (n samples least : ℕ) (bytes : List ℕ) (at : ℕ) (m : Misfit) → pair_in samples least bytes at ≡ Wrong m → pairs_in (suc n) samples least bytes at ≡ Wrong m
unfolding pairs_in
wrong_step n samples least bytes at m e = rw e refl

-- ---- all steps

-- before the first pair
pub first_none : (samples : ℕ) (bytes : List ℕ) (pairs : List Pair) → pairs ≡ [] → AreFirst samples bytes pairs 0 0
first_none samples bytes pairs none =
    let all : samples + 4 - length pairs ≡ samples + 4 = omega (arith, ap length none) in
    record {
      within = omega arith;
      size = omega (arith, ap length none);
      low = omega arith;
      few = omega (arith, ap length none);
      onward = λ at. rw (all, none, add-zero at) (sym (front_none (pairs_in (samples + 4) samples 0 bytes at)));
    }

-- a pair was read: its bytes, and the place of its sidx
pub next_step : (samples : ℕ) (bytes : List ℕ) (pairs : List Pair) (least used : ℕ) (p : RawPair) → AreFirst samples bytes pairs least used → IsNext samples least (drop used bytes) p
    → (used + 12 ≤ length bytes) × (least ≤ order_of p.word) × (order_of p.word ≤ samples + 2)
next_step samples bytes pairs least used p first next =
    let read = pair_got samples least (drop used bytes) 0 p (next.read 0) in
    let order = order_fits samples least (drop used bytes) 0 p read next.other in
    (omega (arith, read.long, length-drop used bytes, first.within), order.0, order.1)

-- the same, where no sidx below 1 may come
pub sample_step : (samples : ℕ) (bytes : List ℕ) (pairs : List Pair) (least used : ℕ) (p : RawPair) → samples ≤ 1000 → 3 ≤ least → AreFirst samples bytes pairs least used → IsNext samples least (drop used bytes) p
    → (least ≤ p.word + 2) × (p.word ≤ samples) × (order_of p.word ≡ p.word + 2)
sample_step samples bytes pairs least used p few behind first next =
    let step = next_step samples bytes pairs least used p first next in
    let place = sample_place least p.word behind step.1 (omega (arith, step.2)) in
    (omega (arith, step.1, place), omega (arith, step.2, place), place)

-- one pair more
pub first_more : (samples : ℕ) (bytes : List ℕ) (pairs now : List Pair) (least used : ℕ) (p : RawPair) → AreFirst samples bytes pairs least used → IsNext samples least (drop used bytes) p → now ≡ pairs ++ signed p ∷ []
    → AreFirst samples bytes now (order_of p.word + 1) (used + 12)
first_more samples bytes pairs now least used p first next now-is =
    let step = next_step samples bytes pairs least used p first next in
    let longer : length now ≡ length pairs + 1 = ap length now-is ∙ length-append pairs (signed p ∷ []) in
    let left : samples + 4 - length pairs ≡ suc (samples + 4 - length now) = omega (arith, longer, first.few, step.1, step.2) in
    let after = drop 12 (drop used bytes) in
    record {
      within = step.0;
      size = omega (arith, longer, first.size);
      low = omega (arith, step.2);
      few = omega (arith, longer, first.few, step.1);
      onward = λ at.
          let place : at + used + 12 ≡ at + (used + 12) = omega arith in
          first.onward at
          ∙ ap (λ (n : ℕ). in_front pairs (pairs_in n samples least (drop used bytes) (at + used))) left
          ∙ ap (in_front pairs) (more_step (samples + 4 - length now) samples least (drop used bytes) (at + used) p (next.read (at + used)) next.other)
          ∙ front_more pairs (signed p) (pairs_in (samples + 4 - length now) samples (order_of p.word + 1) after (at + used + 12))
          ∙ ap (λ (xs : List Pair). in_front xs (pairs_in (samples + 4 - length now) samples (order_of p.word + 1) after (at + used + 12))) (sym now-is)
          ∙ ap (λ (n : ℕ). in_front now (pairs_in (samples + 4 - length now) samples (order_of p.word + 1) after n)) place
          ∙ ap (λ (xs : List ℕ). in_front now (pairs_in (samples + 4 - length now) samples (order_of p.word + 1) xs (at + (used + 12)))) (drop-drop 12 used bytes);
    }

last_left : (samples : ℕ) (bytes : List ℕ) (pairs : List Pair) (least used at : ℕ) → AreFirst samples bytes pairs least used → pairs_in (samples + 4) samples 0 bytes at ≡ in_front pairs (pairs_in (suc (samples + 3 - length pairs)) samples least (drop used bytes) (at + used))
last_left samples bytes pairs least used at first =
    let left : samples + 4 - length pairs ≡ suc (samples + 3 - length pairs) = omega (arith, first.few, first.low) in
    first.onward at ∙ ap (λ (n : ℕ). in_front pairs (pairs_in n samples least (drop used bytes) (at + used))) left

-- the end pair
pub last_end : (samples : ℕ) (bytes : List ℕ) (pairs : List Pair) (least used at : ℕ) (p : RawPair) → AreFirst samples bytes pairs least used → pair_in samples least (drop used bytes) (at + used) ≡ Got p → p.word ≡ 0
    → pairs_in (samples + 4) samples 0 bytes at ≡ Got pairs
last_end samples bytes pairs least used at p first e ended =
    last_left samples bytes pairs least used at first
    ∙ ap (in_front pairs) (end_step (samples + 3 - length pairs) samples least (drop used bytes) (at + used) p e ended)
    ∙ ap (λ (xs : List Pair). Got xs) (append-nil pairs)

-- too few bytes
pub last_short : (samples : ℕ) (bytes : List ℕ) (pairs : List Pair) (least used at : ℕ) → AreFirst samples bytes pairs least used → pair_in samples least (drop used bytes) (at + used) ≡ Short
    → pairs_in (samples + 4) samples 0 bytes at ≡ Short
last_short samples bytes pairs least used at first e =
    last_left samples bytes pairs least used at first ∙ ap (in_front pairs) (short_step (samples + 3 - length pairs) samples least (drop used bytes) (at + used) e)

-- a wrong pair
pub last_wrong : (samples : ℕ) (bytes : List ℕ) (pairs : List Pair) (least used at : ℕ) (m : Misfit) → AreFirst samples bytes pairs least used → pair_in samples least (drop used bytes) (at + used) ≡ Wrong m
    → pairs_in (samples + 4) samples 0 bytes at ≡ Wrong m
last_wrong samples bytes pairs least used at m first e =
    last_left samples bytes pairs least used at first ∙ ap (in_front pairs) (wrong_step (samples + 3 - length pairs) samples least (drop used bytes) (at + used) m e)
