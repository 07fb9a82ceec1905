-- The block in which a stream is read: lemmas.
-- The rules: docs/STREAMS.md, "Readers".
use Rattle.std.proofs.Common.{◌≡◌, ℕ, ◌+◌, ◌-◌, ◌≤◌, List, ◌++◌, length, take, drop, sym, ap, ◌∙◌, arith}
use Rattle.std.proofs.lemmas.List.{take_at}
use Rattle.kt_stream.specs.Reader.{IsFilled, piece_in}

-- a read fills the front of a block
pub filled_block : (items buf : List ℕ) (len : ℕ) → len ≡ length items → length buf ≡ length items → take len (buf ++ drop (length buf) items) ≡ buf
filled_block items buf len whole same = take_at buf (drop (length buf) items) len (same ∙ sym whole)

-- the piece that was read into a block behind what is pending
pub piece_read : (pending items block : List ℕ) (kept n : ℕ) → kept ≡ length pending → items ≡ block → piece_in pending items (kept + n) ≡ take n (drop kept block)
piece_read pending items block kept n is same =
    let size : kept + n - length pending ≡ n = omega (arith, is) in
    ap (λ (m : ℕ). take m (drop (length pending) items)) size ∙ ap (λ (xs : List ℕ). take n (drop (length pending) xs)) same ∙ ap (λ (m : ℕ). take n (drop m block)) (sym is)

-- the block begins with what is pending
pub block_filled : (pending items block before bytes : List ℕ) (kept n : ℕ) → bytes ≡ pending → kept ≡ length bytes → items ≡ block → take kept block ≡ take kept before → take (length bytes) before ≡ bytes → kept + n ≤ length before → length block ≡ length before → IsFilled pending items (kept + n)
block_filled pending items block before bytes kept n is size same stays front within long = record {
  front = ap (λ (m : ℕ). take m items) (sym (size ∙ ap length is)) ∙ ap (take kept) same ∙ stays ∙ ap (λ (m : ℕ). take m before) size ∙ front ∙ is;
  behind = omega (arith, size, ap length is);
  within = omega (arith, ap length same, within, long);
}
