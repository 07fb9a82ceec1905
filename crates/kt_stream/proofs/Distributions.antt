-- How distributions are read and written.
use Rattle.std.proofs.Common.{◌≡◌, ℕ, ◌+◌, ◌*◌, ◌≤◌, ◌<◌, ◌^◌, List, [], ◌∷◌, ◌++◌, length, drop, refl, sym, ap, subst, ◌∙◌, arith, inl}
use Rattle.std.specs.Prelude.{min}
use Rattle.std.proofs.lemmas.List.{length-append, drop-append-le, length-drop, drop-drop}
use Rattle.byteorder.specs.Endian.{little_bytes}
use Rattle.kt_stream.specs.declared.cdf.CdfFront.{CdfFront}
use Rattle.kt_stream.specs.declared.entry.Bin.{Bin}
use Rattle.kt_stream.specs.declared.entry.Cdf.{Cdf}
use Rattle.kt_stream.specs.declared.kind.Shape.{Shape}
use Rattle.kt_stream.specs.declared.read.Misfit.{Misfit}
use Rattle.kt_stream.specs.declared.read.Read.TheVariants.{Got, Short, Wrong}
use Rattle.kt_stream.specs.declared.stop.RecordCause.TheVariants.{Id, Bins}
use Rattle.kt_stream.specs.Read.{◌>>=◌, fields_in, fields_then, AreJudged}
use Rattle.kt_stream.specs.Pairs.{misfit}
use Rattle.kt_stream.specs.Bins.{cdf_fields, cdf_front, cdf_front_in, cdf_of, bins_in, cdf_in, cdf_bytes, bins_bytes, cdf_form, IsCdf}
use Rattle.kt_stream.specs.Stream.{Kept, AreBytes, IsLawful}
use Rattle.kt_stream.proofs.Cases.{got_is, bind_got, kept_then}
use Rattle.kt_stream.proofs.Fields.{between_bounds, between_none, bytes_behind, fields_kept, fields_got, fields_back, behind_fields}
use Rattle.kt_stream.proofs.PairRecords.{fields_before}
use Rattle.kt_stream.proofs.BinsRead.{bins_kept, bins_got, bins_back, bins_length}

front_kept : (most : ℕ) (bytes more : List ℕ) (at : ℕ) → Kept (cdf_front_in most bytes at) (cdf_front_in most (bytes ++ more) at)
front_kept most bytes more at = kept_then (fields_in (cdf_fields most) [] bytes at) (fields_in (cdf_fields most) [] (bytes ++ more) at) _ _ (fields_kept (cdf_fields most) [] bytes more at) (λ values e. refl)

-- what is known of the fields in front of the bins
record FrontRead (most : ℕ) (bytes : List ℕ) (at : ℕ) (front : CdfFront) : Type 0 where
  pub long : 16 ≤ length bytes
  pub judged : AreJudged (cdf_fields most) [] at (front.event ∷ front.areaperil ∷ front.vulnerability ∷ front.bins ∷ [])
  pub written : AreBytes bytes → bytes ≡ fields_then (cdf_fields most) (front.event ∷ front.areaperil ∷ front.vulnerability ∷ front.bins ∷ []) (drop 16 bytes)

values_read : (most : ℕ) (bytes : List ℕ) (at : ℕ) (values : List ℕ) → AreJudged (cdf_fields most) [] at values → 16 ≤ length bytes → (AreBytes bytes → bytes ≡ fields_then (cdf_fields most) values (drop 16 bytes)) → FrontRead most bytes at (cdf_front values)
values_read most bytes at [] judged long written = absurd judged
values_read most bytes at (a ∷ []) judged long written = absurd judged.1
values_read most bytes at (a ∷ b ∷ []) judged long written = absurd judged.1.1
values_read most bytes at (a ∷ b ∷ c ∷ []) judged long written = absurd judged.1.1.1
values_read most bytes at (a ∷ b ∷ c ∷ d ∷ []) judged long written = record { long = long; judged = judged; written = written }
values_read most bytes at (a ∷ b ∷ c ∷ d ∷ e ∷ values) judged long written = absurd judged.1.1.1.1

front_got : (most : ℕ) (bytes : List ℕ) (at : ℕ) (front : CdfFront) → cdf_front_in most bytes at ≡ Got front → FrontRead most bytes at front
front_got most bytes at front e =
    let first = bind_got (fields_in (cdf_fields most) [] bytes at) (λ values. Got (cdf_front values)) front e in
    let known = fields_got (cdf_fields most) [] bytes at first.0 first.1 in
    let is : cdf_front known.values ≡ front = ap cdf_front (sym known.out_is) ∙ got_is {W = Misfit} (cdf_front first.0) front first.2 in
    subst (FrontRead most bytes at) {x = cdf_front known.values} is
    (values_read most bytes at known.values known.judged known.long (λ are. known.written are (inl refl, (inl refl, (inl refl, (inl refl, tt))))))

cdf_kept : (most : ℕ) (bytes more : List ℕ) (at : ℕ) → Kept (cdf_in most bytes at) (cdf_in most (bytes ++ more) at)
unfolding cdf_in
cdf_kept most bytes more at =
    kept_then (cdf_front_in most bytes at) (cdf_front_in most (bytes ++ more) at) _ _ (front_kept most bytes more at) (λ front e.
    rw (drop-append-le 16 bytes more (front_got most bytes at front e).long) (kept_then (bins_in front.bins 0 (drop 16 bytes) (at + 16)) _ _ _ (bins_kept front.bins 0 (drop 16 bytes) more (at + 16)) (λ bins e2. refl)))

-- the bytes of a distribution
pub cdf_length : (cdf : Cdf) → length (cdf_bytes cdf) ≡ 16 + 12 * length cdf.bins
unfolding cdf_bytes
cdf_length cdf =
    let bins = bins_bytes cdf.bins in
    let count = little_bytes 4 (length cdf.bins) ++ bins in
    omega (
      arith,
      length-append (little_bytes 4 cdf.event) (little_bytes 4 cdf.areaperil ++ (little_bytes 4 cdf.vulnerability ++ count)),
      length-append (little_bytes 4 cdf.areaperil) (little_bytes 4 cdf.vulnerability ++ count),
      length-append (little_bytes 4 cdf.vulnerability) count,
      length-append (little_bytes 4 (length cdf.bins)) bins,
      bins_length cdf.bins,
    )

-- what is known of a distribution that was read
record CdfRead (most : ℕ) (bytes : List ℕ) (cdf : Cdf) : Type 0 where
  pub sized : (1 ≤ length (cdf_bytes cdf)) × (length (cdf_bytes cdf) ≤ length bytes)
  pub good : IsCdf most cdf
  pub written : AreBytes bytes → bytes ≡ cdf_bytes cdf ++ drop (length (cdf_bytes cdf)) bytes

made_read : (most : ℕ) (bytes : List ℕ) (at : ℕ) (front : CdfFront) (bins : List Bin) → cdf_front_in most bytes at ≡ Got front → bins_in front.bins 0 (drop 16 bytes) (at + 16) ≡ Got bins → CdfRead most bytes (cdf_of front bins)
unfolding cdf_bytes
made_read most bytes at front bins front-is bins-is =
    let fields = front_got most bytes at front front-is in
    let read = bins_got front.bins 0 (drop 16 bytes) (at + 16) bins bins-is in
    let long : length (cdf_bytes (cdf_of front bins)) ≡ 16 + 12 * front.bins = cdf_length (cdf_of front bins) ∙ ap (λ (n : ℕ). 16 + 12 * n) read.count in
    let own : fields_then (cdf_fields most) (front.event ∷ front.areaperil ∷ front.vulnerability ∷ front.bins ∷ []) (bins_bytes bins) ≡ cdf_bytes (cdf_of front bins) =
    ap (λ (n : ℕ). little_bytes 4 front.event ++ (little_bytes 4 front.areaperil ++ (little_bytes 4 front.vulnerability ++ (little_bytes 4 n ++ bins_bytes bins)))) (sym read.count) in
    let count = between_bounds 1 (min most 1000) (misfit (at + 4 + 4 + 4) Bins) front.bins fields.judged.1.1.1.0 in
    record {
      sized = (omega (arith, long), omega (arith, long, read.long, fields.long, length-drop 16 bytes));
      good = record {
        event = between_bounds 1 2147483647 (misfit at Id) front.event fields.judged.0;
        areaperil = between_bounds 1 2147483647 (misfit (at + 4) Id) front.areaperil fields.judged.1.0;
        vulnerability = between_bounds 1 2147483647 (misfit (at + 4 + 4) Id) front.vulnerability fields.judged.1.1.0;
        some = rw read.count count.0;
        few = rw read.count count.1;
        bins = read.fit;
      };
      written = λ are.
          let values = front.event ∷ front.areaperil ∷ front.vulnerability ∷ front.bins ∷ [] in
          fields.written are ∙ ap (fields_then (cdf_fields most) values) (read.written (bytes_behind 16 bytes are)) ∙ fields_before (cdf_fields most) values (bins_bytes bins) (drop (12 * front.bins) (drop 16 bytes))
          ∙ ap (λ (xs : List ℕ). fields_then (cdf_fields most) values (bins_bytes bins) ++ xs) (drop-drop (12 * front.bins) 16 bytes)
          ∙ ap (λ (xs : List ℕ). xs ++ drop (16 + 12 * front.bins) bytes) own ∙ ap (λ (n : ℕ). cdf_bytes (cdf_of front bins) ++ drop n bytes) (sym long);
    }

cdf_got : (most : ℕ) (bytes : List ℕ) (at : ℕ) (cdf : Cdf) → cdf_in most bytes at ≡ Got cdf → CdfRead most bytes cdf
unfolding cdf_in
cdf_got most bytes at cdf e =
    let first = bind_got (cdf_front_in most bytes at) (λ front. bins_in front.bins 0 (drop 16 bytes) (at + 16) >>= λ bins. Got (cdf_of front bins)) cdf e in
    let next = bind_got (bins_in first.0.bins 0 (drop 16 bytes) (at + 16)) (λ bins. Got (cdf_of first.0 bins)) cdf first.2 in
    subst (CdfRead most bytes) {x = cdf_of first.0 next.0} (got_is {W = Misfit} (cdf_of first.0 next.0) cdf next.2) (made_read most bytes at first.0 next.0 first.1 next.1)

-- a distribution is read back
pub cdf_back : (most : ℕ) (cdf : Cdf) (rest : List ℕ) (at : ℕ) → IsCdf most cdf → cdf_in most (cdf_bytes cdf ++ rest) at ≡ Got cdf
unfolding cdf_in cdf_bytes
cdf_back most cdf rest at is =
    let values = cdf.event ∷ cdf.areaperil ∷ cdf.vulnerability ∷ length cdf.bins ∷ [] in
    let behind = bins_bytes cdf.bins ++ rest in
    let event = between_none 1 2147483647 (misfit at Id) cdf.event is.event.0 is.event.1 in
    let areaperil = between_none 1 2147483647 (misfit (at + 4) Id) cdf.areaperil is.areaperil.0 is.areaperil.1 in
    let vulnerability = between_none 1 2147483647 (misfit (at + 4 + 4) Id) cdf.vulnerability is.vulnerability.0 is.vulnerability.1 in
    let count = between_none 1 (min most 1000) (misfit (at + 4 + 4 + 4) Bins) (length cdf.bins) is.some is.few in
    let small-event : cdf.event < 256 ^ 4 = omega (arith, is.event.1) in
    let small-areaperil : cdf.areaperil < 256 ^ 4 = omega (arith, is.areaperil.1) in
    let small-vulnerability : cdf.vulnerability < 256 ^ 4 = omega (arith, is.vulnerability.1) in
    let small-count : length cdf.bins < 256 ^ 4 = omega (arith, is.few) in
    let judged : AreJudged (cdf_fields most) [] at values = (event, (areaperil, (vulnerability, (count, tt)))) in
    rw (
      ← fields_before (cdf_fields most) values (bins_bytes cdf.bins) rest,
      fields_back (cdf_fields most) [] values behind at judged (small-event, (small-areaperil, (small-vulnerability, (small-count, tt)))),
      behind_fields (cdf_fields most) [] values behind at judged,
      bins_back cdf.bins 0 rest (at + 16) is.bins,
    ) refl

-- how distributions are read and written
pub cdf_lawful : IsLawful Cdf cdf_form (λ (shape : Shape) samples cdf. IsCdf shape.bins cdf)
unfolding cdf_in
cdf_lawful = record {
  steady = λ shape samples bytes more at. cdf_kept shape.bins bytes more at;
  sized = λ shape samples bytes at cdf e. (cdf_got shape.bins bytes at cdf e).sized;
  nothing = λ shape samples at. refl;
  good = λ shape samples bytes at cdf few e. (cdf_got shape.bins bytes at cdf e).good;
  back = λ shape samples cdf rest at few is. cdf_back shape.bins cdf rest at is;
  written = λ shape samples bytes at cdf few are e. (cdf_got shape.bins bytes at cdf e).written are;
}

-- a distribution whose fields are short is short
pub cdf_front_short : (most : ℕ) (bytes : List ℕ) (at : ℕ) → cdf_front_in most bytes at ≡ Short → cdf_in most bytes at ≡ Short
unfolding cdf_in
cdf_front_short most bytes at e = rw e refl

-- a distribution with a wrong field is wrong
pub cdf_front_wrong : (most : ℕ) (bytes : List ℕ) (at : ℕ) (wrong : Misfit) → cdf_front_in most bytes at ≡ Wrong wrong → cdf_in most bytes at ≡ Wrong wrong
unfolding cdf_in
cdf_front_wrong most bytes at wrong e = rw e refl

-- a distribution whose bins are short is short
pub cdf_bins_short : (most : ℕ) (bytes : List ℕ) (at : ℕ) (front : CdfFront) → cdf_front_in most bytes at ≡ Got front → bins_in front.bins 0 (drop 16 bytes) (at + 16) ≡ Short → cdf_in most bytes at ≡ Short
unfolding cdf_in
cdf_bins_short most bytes at front e b = rw (e, b) refl

-- a distribution with a wrong bin is wrong
pub cdf_bins_wrong : (most : ℕ) (bytes : List ℕ) (at : ℕ) (front : CdfFront) (wrong : Misfit) → cdf_front_in most bytes at ≡ Got front → bins_in front.bins 0 (drop 16 bytes) (at + 16) ≡ Wrong wrong → cdf_in most bytes at ≡ Wrong wrong
unfolding cdf_in
cdf_bins_wrong most bytes at front wrong e b = rw (e, b) refl

-- a distribution whose fields and bins were read
pub cdf_whole : (most : ℕ) (bytes : List ℕ) (at : ℕ) (front : CdfFront) (bins : List Bin) → cdf_front_in most bytes at ≡ Got front → bins_in front.bins 0 (drop 16 bytes) (at + 16) ≡ Got bins → cdf_in most bytes at ≡ Got (cdf_of front bins)
unfolding cdf_in
cdf_whole most bytes at front bins e b = rw (e, b) refl
