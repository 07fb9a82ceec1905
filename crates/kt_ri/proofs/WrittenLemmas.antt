-- Bytes that are put behind others, and taken back.
use Rattle.std.proofs.Common.{◌≡◌, ◌∙◌, ◌≤◌, ◌++◌, ℕ, List, [], length, take, sym, ap, arith, append-nil, append_assoc}
use Rattle.std.proofs.lemmas.List.{length-append, length-take-le, take_at}
use Rattle.kt_stream.specs.Write.{BeginsWith}

-- nothing yet
pub begins-none : (old : List ℕ) → BeginsWith old old
begins-none old = ([], sym (append-nil old))

-- and more
pub begins-more : (old now next : List ℕ) → BeginsWith old now → BeginsWith now next → BeginsWith old next
begins-more old now next begins more = (begins.0 ++ more.0, more.1 ∙ (ap (λ now. now ++ more.0) begins.1 ∙ append_assoc old begins.0 more.0))

-- what was there is no longer than all
pub begins-long : (old now : List ℕ) → BeginsWith old now → length old ≤ length now
begins-long old now begins = omega (arith, ap length begins.1, length-append old begins.0)

-- the rest can be taken back
pub taken-back : (old now : List ℕ) (n : ℕ) → BeginsWith old now → n ≡ length old → take n now ≡ old
taken-back old now n begins is = ap (take n) begins.1 ∙ take_at old begins.0 n (sym is)

-- a list that is written over by one as long stays as long
pub kept-length : (n : ℕ) (front rest : List ℕ) → length front ≡ n → length (take n (front ++ rest)) ≡ n
kept-length n front rest long = length-take-le n (front ++ rest) (omega (arith, long, length-append front rest))
