-- Bins: whatever follows them, as they are read, and as they are read back.
use Rattle.std.proofs.Common.{◌≡◌, ℕ, zero, suc, ◌+◌, ◌*◌, ◌≤◌, ◌<◌, ◌^◌, List, [], ◌∷◌, ◌++◌, length, drop, refl, sym, ap, subst, ◌∙◌, append_assoc, arith, add-zero, inl, inr}
use Rattle.std.proofs.lemmas.List.{drop-append-le, length-drop, drop-drop, length-append, append-nil, drop_at}
use Rattle.byteorder.specs.Endian.{little_bytes}
use Rattle.byteorder.specs.Numbers.{length-bytes_low_first}
use Rattle.kt_stream.specs.declared.entry.Bin.{Bin}
use Rattle.kt_stream.specs.declared.read.Misfit.{Misfit}
use Rattle.kt_stream.specs.declared.read.Read.TheVariants.{Got, Short, Wrong}
use Rattle.kt_stream.specs.declared.stop.RecordCause.TheVariants.{Prob, Mean}
use Rattle.kt_stream.specs.Read.{fields_in, fields_then, AreJudged}
use Rattle.kt_stream.specs.Pairs.{misfit, in_front}
use Rattle.kt_stream.specs.Bins.{lowest, bin_fields, bin_of, bin_in, bins_in, AreBins, bin_bytes, bins_bytes}
use Rattle.kt_stream.specs.Stream.{Kept, AreBytes}
use Rattle.kt_stream.proofs.Cases.{got_is, bind_got, kept_then}
use Rattle.kt_stream.proofs.Fields.{between_bounds, between_none, bytes_behind, fields_kept, fields_got, fields_back}
use Rattle.kt_stream.proofs.PairsLoop.{front_none, front_more}

-- ---- one bin

-- a bin keeps what it is, whatever bytes follow
pub bin_kept : (left before : ℕ) (bytes more : List ℕ) (at : ℕ) → Kept (bin_in left before bytes at) (bin_in left before (bytes ++ more) at)
unfolding bin_in
bin_kept left before bytes more at =
    kept_then (fields_in (bin_fields left before) [] bytes at) (fields_in (bin_fields left before) [] (bytes ++ more) at) _ _ (fields_kept (bin_fields left before) [] bytes more at) (λ values e. refl)

-- what is known of a bin that was read
pub record BinRead (left before : ℕ) (bytes : List ℕ) (b : Bin) : Type 0 where
  pub long : 12 ≤ length bytes
  pub low : lowest left before ≤ b.prob_to
  pub high : b.prob_to ≤ 1002001000000
  pub mean : b.mean ≤ 1000000
  pub written : AreBytes bytes → bytes ≡ bin_bytes b ++ drop 12 bytes

bin_read : (left before : ℕ) (bytes : List ℕ) (at : ℕ) (values : List ℕ) → AreJudged (bin_fields left before) [] at values → 12 ≤ length bytes
    → (AreBytes bytes → bytes ≡ fields_then (bin_fields left before) values (drop 12 bytes)) → BinRead left before bytes (bin_of values)
unfolding bin_bytes
bin_read left before bytes at [] judged long written = absurd judged
bin_read left before bytes at (prob ∷ []) judged long written = absurd judged.1
bin_read left before bytes at (prob ∷ mean ∷ []) judged long written =
    let bounds = between_bounds (lowest left before) 1002001000000 (misfit at Prob) prob judged.0 in
    record {
      long = long;
      low = bounds.0;
      high = bounds.1;
      mean = (between_bounds 0 1000000 (misfit (at + 8) Mean) mean judged.1.0).1;
      written = λ are. written are ∙ sym (append_assoc (little_bytes 8 prob) (little_bytes 4 mean) (drop 12 bytes));
    }
bin_read left before bytes at (prob ∷ mean ∷ other ∷ values) judged long written = absurd judged.1.1

bin_as : (values out : List ℕ) (b : Bin) → out ≡ values → bin_of out ≡ b → bin_of values ≡ b
bin_as values out b is e = ap bin_of (sym is) ∙ e

-- what is known of a bin that was read
pub bin_got : (left before : ℕ) (bytes : List ℕ) (at : ℕ) (b : Bin) → bin_in left before bytes at ≡ Got b → BinRead left before bytes b
unfolding bin_in
bin_got left before bytes at b e =
    let first = bind_got (fields_in (bin_fields left before) [] bytes at) (λ values. Got (bin_of values)) b e in
    let known = fields_got (bin_fields left before) [] bytes at first.0 first.1 in
    subst (BinRead left before bytes) {x = bin_of known.values} (bin_as known.values first.0 b known.out_is (got_is {W = Misfit} (bin_of first.0) b first.2))
    (bin_read left before bytes at known.values known.judged known.long (λ are. known.written are (inr refl, (inl refl, tt))))

-- the bytes of a bin
pub bin_length : (b : Bin) → length (bin_bytes b) ≡ 12
unfolding bin_bytes
bin_length b = omega (arith, length-append (little_bytes 8 b.prob_to) (little_bytes 4 b.mean), length-bytes_low_first 0 8 b.prob_to, length-bytes_low_first 0 4 b.mean)

bin_back : (left before : ℕ) (b : Bin) (rest : List ℕ) (at : ℕ) → lowest left before ≤ b.prob_to → b.prob_to ≤ 1002001000000 → b.mean ≤ 1000000 → bin_in left before (bin_bytes b ++ rest) at ≡ Got b
unfolding bin_in bin_bytes
bin_back left before b rest at low high mean =
    let prob = between_none (lowest left before) 1002001000000 (misfit at Prob) b.prob_to low high in
    let means = between_none 0 1000000 (misfit (at + 8) Mean) b.mean (omega arith) mean in
    let small-prob : b.prob_to < 256 ^ 8 = omega (arith, high) in
    let small-mean : b.mean < 256 ^ 4 = omega (arith, mean) in
    rw (append_assoc (little_bytes 8 b.prob_to) (little_bytes 4 b.mean) rest, fields_back (bin_fields left before) [] (b.prob_to ∷ b.mean ∷ []) rest at (prob, (means, tt)) (small-prob, (small-mean, tt))) refl

-- ---- all bins

-- the bins keep what they are, whatever bytes follow
pub bins_kept : (n before : ℕ) (bytes more : List ℕ) (at : ℕ) → Kept (bins_in n before bytes at) (bins_in n before (bytes ++ more) at)
unfolding bins_in
bins_kept zero before bytes more at = refl
bins_kept (suc left) before bytes more at =
    kept_then (bin_in left before bytes at) (bin_in left before (bytes ++ more) at) _ _ (bin_kept left before bytes more at) (λ b e.
    rw (drop-append-le 12 bytes more (bin_got left before bytes at b e).long) (kept_then _ _ _ _ (bins_kept left b.prob_to (drop 12 bytes) more (at + 12)) (λ bins e2. refl)))

-- what is known of bins that were read
pub record BinsRead (n before : ℕ) (bytes : List ℕ) (bins : List Bin) : Type 0 where
  pub count : length bins ≡ n
  pub long : 12 * n ≤ length bytes
  pub fit : AreBins before bins
  pub written : AreBytes bytes → bytes ≡ bins_bytes bins ++ drop (12 * n) bytes

more_bins : (left before : ℕ) (bytes : List ℕ) (b : Bin) (bins : List Bin) → BinRead left before bytes b → BinsRead left b.prob_to (drop 12 bytes) bins → BinsRead (suc left) before bytes (b ∷ bins)
unfolding bins_bytes
more_bins left before bytes b bins one read =
    let further : 12 + 12 * left ≡ 12 * suc left = omega arith in
    record {
      count = ap suc read.count;
      long = omega (arith, read.long, length-drop 12 bytes, one.long);
      fit = (rw read.count one.low, one.high, one.mean, read.fit);
      written = λ are.
          one.written are ∙ ap (λ (xs : List ℕ). bin_bytes b ++ xs) (read.written (bytes_behind 12 bytes are)) ∙ sym (append_assoc (bin_bytes b) (bins_bytes bins) (drop (12 * left) (drop 12 bytes)))
          ∙ ap (λ (xs : List ℕ). (bin_bytes b ++ bins_bytes bins) ++ xs) (drop-drop (12 * left) 12 bytes ∙ ap (λ (n : ℕ). drop n bytes) further);
    }

-- what is known of bins that were read
pub bins_got : (n before : ℕ) (bytes : List ℕ) (at : ℕ) (bins : List Bin) → bins_in n before bytes at ≡ Got bins → BinsRead n before bytes bins
unfolding bins_in bins_bytes
bins_got zero before bytes at bins e = subst (BinsRead zero before bytes) {x = []} (got_is {W = Misfit} [] bins e) none
  where
    none : BinsRead zero before bytes []
    none = record { count = refl; long = omega arith; fit = tt; written = λ are. refl }
bins_got (suc left) before bytes at bins e =
    let first = bind_got (bin_in left before bytes at) (λ b. in_front (b ∷ []) (bins_in left b.prob_to (drop 12 bytes) (at + 12))) bins e in
    let b = first.0 in
    let next = bind_got (bins_in left b.prob_to (drop 12 bytes) (at + 12)) (λ more. Got (b ∷ more)) bins first.2 in
    subst (BinsRead (suc left) before bytes) {x = b ∷ next.0} (got_is {W = Misfit} (b ∷ next.0) bins next.2)
    (more_bins left before bytes b next.0 (bin_got left before bytes at b first.1) (bins_got left b.prob_to (drop 12 bytes) (at + 12) next.0 next.1))

-- the bytes of bins
pub bins_length : (bins : List Bin) → length (bins_bytes bins) ≡ 12 * length bins
unfolding bins_bytes
bins_length [] = refl
bins_length (b ∷ bins) = omega (arith, length-append (bin_bytes b) (bins_bytes bins), bin_length b, bins_length bins)

-- bins are read back
pub bins_back : (bins : List Bin) (before : ℕ) (rest : List ℕ) (at : ℕ) → AreBins before bins → bins_in (length bins) before (bins_bytes bins ++ rest) at ≡ Got bins
unfolding bins_in bins_bytes
bins_back [] before rest at are = refl
bins_back (b ∷ bins) before rest at are =
    rw (
      append_assoc (bin_bytes b) (bins_bytes bins) rest,
      bin_back (length bins) before b (bins_bytes bins ++ rest) at are.0 are.1 are.2,
      drop_at (bin_bytes b) (bins_bytes bins ++ rest) 12 (bin_length b),
      bins_back bins b.prob_to rest (at + 12) are.3,
    ) refl

-- ---- one after the other

-- The bins so far are in front of those that come, of which so many are left.
pub record BinsGo (n : ℕ) (bytes : List ℕ) (at : ℕ) (bins : List Bin) (before used left : ℕ) : Type 0 where
  pub within : used ≤ length bytes
  pub low : before ≤ 1002001000000
  pub onward : bins_in n 0 bytes at ≡ in_front bins (bins_in left before (drop used bytes) (at + used))

-- one bin more
pub bin_more : (n : ℕ) (bytes : List ℕ) (at : ℕ) (bins now : List Bin) (before used left step : ℕ) (b : Bin) → BinsGo n bytes at bins before used left → left ≡ suc step → bin_in step before (drop used bytes) (at + used) ≡ Got b → now ≡ bins ++ b ∷ []
    → BinsGo n bytes at now b.prob_to (used + 12) step
unfolding bins_in
bin_more n bytes at bins now before used left step b go left-is e now-is =
    let read = bin_got step before (drop used bytes) (at + used) b e in
    let place : at + used + 12 ≡ at + (used + 12) = omega arith in
    record {
      within = omega (arith, read.long, length-drop used bytes, go.within);
      low = read.high;
      onward = rw now-is (go.onward ∙ rw (left-is, e, drop-drop 12 used bytes, place) (front_more bins b (bins_in step b.prob_to (drop (used + 12) bytes) (at + (used + 12)))));
    }

-- too few bytes
pub bin_short : (n : ℕ) (bytes : List ℕ) (at : ℕ) (bins : List Bin) (before used left step : ℕ) → BinsGo n bytes at bins before used left → left ≡ suc step → bin_in step before (drop used bytes) (at + used) ≡ Short → bins_in n 0 bytes at ≡ Short
unfolding bins_in
bin_short n bytes at bins before used left step go left-is e = go.onward ∙ rw (left-is, e) refl

-- a wrong bin
pub bin_wrong : (n : ℕ) (bytes : List ℕ) (at : ℕ) (bins : List Bin) (before used left step : ℕ) (m : Misfit) → BinsGo n bytes at bins before used left → left ≡ suc step → bin_in step before (drop used bytes) (at + used) ≡ Wrong m → bins_in n 0 bytes at ≡ Wrong m
unfolding bins_in
bin_wrong n bytes at bins before used left step m go left-is e = go.onward ∙ rw (left-is, e) refl

-- all bins
pub no_bin : (n : ℕ) (bytes : List ℕ) (at : ℕ) (bins : List Bin) (before used left : ℕ) → BinsGo n bytes at bins before used left → left ≡ 0 → bins_in n 0 bytes at ≡ Got bins
unfolding bins_in
no_bin n bytes at bins before used left go none = go.onward ∙ rw (none, append-nil bins) refl
