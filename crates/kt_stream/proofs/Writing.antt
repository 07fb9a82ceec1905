-- Pieces are written one after the other.
use Rattle.std.proofs.Common.{◌≡◌, ℕ, ◌+◌, ◌<◌, List, ◌++◌, length, drop, get_or, drop-cons, refl, sym, ap, ◌∙◌, append_assoc, add-one}
use Rattle.kt_stream.specs.declared.entry.Bin.{Bin}
use Rattle.kt_stream.specs.declared.entry.Pair.{Pair}
use Rattle.kt_stream.specs.Bins.{bin_bytes, bins_bytes}
use Rattle.kt_stream.specs.Pairs.{pair_bytes, pairs_bytes}
use Rattle.kt_stream.specs.Write.{BeginsWith}

-- What was written so far behind other bytes, and what is still to come of the whole.
pub record Puts (old whole tail now : List ℕ) : Type 0 where
  pub begins : BeginsWith old now
  pub onward : now ++ tail ≡ old ++ whole

-- the first piece
pub puts_first : (old first tail now : List ℕ) → now ≡ old ++ first → Puts old (first ++ tail) tail now
puts_first old first tail now is = record {
  begins = (first, is);
  onward = ap (λ (xs : List ℕ). xs ++ tail) is ∙ append_assoc old first tail;
}

-- one piece more
pub puts_more : (old whole tail now piece rest new : List ℕ) → Puts old whole tail now → tail ≡ piece ++ rest → new ≡ now ++ piece → Puts old whole rest new
puts_more old whole tail now piece rest new puts next is = record {
  begins = (puts.begins.0 ++ piece, is ∙ ap (λ (xs : List ℕ). xs ++ piece) puts.begins.1 ∙ append_assoc old puts.begins.0 piece);
  onward = ap (λ (xs : List ℕ). xs ++ rest) is ∙ append_assoc now piece rest ∙ ap (λ (xs : List ℕ). now ++ xs) (sym next) ∙ puts.onward;
}

-- the last piece
pub puts_last : (old whole tail now piece new : List ℕ) → Puts old whole tail now → tail ≡ piece → new ≡ now ++ piece → new ≡ old ++ whole
puts_last old whole tail now piece new puts last is = is ∙ ap (λ (xs : List ℕ). now ++ xs) (sym last) ∙ puts.onward

-- the next of some pairs
pub pairs_next : (pairs : List Pair) (i : ℕ) (none : Pair) → i < length pairs → pairs_bytes (drop i pairs) ≡ pair_bytes (get_or pairs i none) ++ pairs_bytes (drop (i + 1) pairs)
unfolding pairs_bytes
pairs_next pairs i none less = rw (drop-cons pairs i none less, add-one i) refl

-- the next of some bins
pub bins_next : (bins : List Bin) (i : ℕ) (none : Bin) → i < length bins → bins_bytes (drop i bins) ≡ bin_bytes (get_or bins i none) ++ bins_bytes (drop (i + 1) bins)
unfolding bins_bytes
bins_next bins i none less = rw (drop-cons bins i none less, add-one i) refl
