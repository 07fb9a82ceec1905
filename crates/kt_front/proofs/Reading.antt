-- What is read of the whole source.
use Rattle.std.proofs.Common.{◌≡◌, ℕ, ◌+◌, ◌≤◌, ◌<◌, List, [], ◌++◌, length, take, drop, Option, Some, None, Ok, Err, refl, sym, ap, subst, ◌∙◌, append_assoc, arith}
use Rattle.std.specs.Prelude.{IfSome}
use Rattle.std.proofs.Math.Seq.{take-append_seam, take-append-add}
use Rattle.std.proofs.lemmas.List.{take-append-drop, take-append-le, take_at, length-take-le, length-append}
use Rattle.kt_out.specs.Counts.{Rose}
use Rattle.kt_out.specs.Reading.{Gives, GivesKnown, ReadsBytes, SourceState}
use Rattle.kt_ends.specs.declared.tool_stop.ToolStop.{ToolStop}
use Rattle.kt_ends.specs.declared.tool_stop.ToolStop.TheVariants as tool
use Rattle.kt_front.specs.Converting.{source_limit, ReadsWhole}
use Rattle.kt_front.specs.SourceText.{HasRead, HasFed, ReadsPart, ReadsUpTo}

read_none : (left : Option (List ℕ)) → HasRead left left []
read_none None = refl
read_none (Some source) = (source, refl, refl)

read_from : (fed source rest : List ℕ) (next : Option (List ℕ)) (room filled : List ℕ) (n : ℕ) → source ≡ fed ++ rest → Gives rest next room filled n → HasRead (Some source) next (fed ++ take n filled)
read_from fed source rest next room filled n whole gives =
    let own : take n filled ≡ take n rest = ap (take n) gives.bytes ∙ take_at (take n rest) (drop n room) n (length-take-le n rest gives.was_left) in
    (drop n rest, gives.rest, whole ∙ ap (λ (xs : List ℕ). fed ++ xs) (sym (take-append-drop n rest)) ∙ sym (append_assoc fed (take n rest) (drop n rest)) ∙ ap (λ (xs : List ℕ). (fed ++ xs) ++ drop n rest) (sym own))

read_more : (left now next : Option (List ℕ)) (fed room filled : List ℕ) (n : ℕ) → HasRead left now fed → GivesKnown now next room filled n → HasRead left next (fed ++ take n filled)
read_more None now next fed room filled n read gives = subst (λ (o : Option (List ℕ)). GivesKnown o next room filled n) read gives
read_more (Some source) now next fed room filled n read gives =
    read_from fed source read.0 next room filled n read.2 (subst (λ (o : Option (List ℕ)). GivesKnown o next room filled n) read.1 gives)

-- nothing was read yet
pub fed_none : (state : SourceState) → HasFed state state []
fed_none state = record { read = read_none state.left; counted = refl }

read_then : (before now after : Option (List ℕ)) (first second : List ℕ) → HasRead before now first → HasRead now after second → HasRead before after (first ++ second)
read_then None now after first second one two = subst (λ (o : Option (List ℕ)). HasRead o after second) one two
read_then (Some source) now after first second one two =
    let more = subst (λ (o : Option (List ℕ)). HasRead o after second) one.1 two in
    (more.0, more.1, one.2 ∙ ap (λ (xs : List ℕ). first ++ xs) more.2 ∙ sym (append_assoc first second more.0))

-- a part behind a part
pub fed_then : {before now after : SourceState} {first second : List ℕ} → HasFed before now first → HasFed now after second → HasFed before after (first ++ second)
fed_then {before} {now} {after} {first} {second} one two = record { read = read_then before.left now.left after.left first second one.read two.read; counted = two.counted ∙ one.counted }

-- a read that gave a part
pub fed_read : {before now : SourceState} (room filled : List ℕ) (n : ℕ) → ReadsBytes before now room filled n → HasFed before now (take n filled)
fed_read {before} {now} room filled n reads = record { read = read_more before.left before.left now.left [] room filled n (read_none before.left) reads.moved; counted = reads.counted }

-- the end of a source
pub none_left : (before now : Option (List ℕ)) (room filled : List ℕ) (n : ℕ) → GivesKnown before now room filled n → n ≡ 0 → IfSome now (λ left. left ≡ [])
none_left None now room filled n gives none = rw gives tt
none_left (Some left) now room filled n gives none = rw gives.rest (rw (none, gives.at_end.0 none) refl)

-- what stops the reading of the rest stops that of the whole
larger : (most limit : ℕ) (before now : Option (List ℕ)) (bytes : List ℕ) → HasRead before now bytes → length bytes + most ≡ limit → IfSome now (λ source. most < length source) → IfSome before (λ source. limit < length source)
larger most limit None now bytes read is many = tt
larger most limit (Some source) now bytes read is many =
    let rest : most < length read.0 = subst (λ (o : Option (List ℕ)). IfSome o (λ source. most < length source)) read.1 many in
    omega (arith, ap length read.2, length-append bytes read.0, rest, is)

pub stopped_behind : (most limit : ℕ) (before now after : SourceState) (bytes : List ℕ) (stop : ToolStop) → HasFed before now bytes → length bytes + most ≡ limit → ReadsUpTo most now after (Err stop) → ReadsUpTo limit before after (Err stop)
stopped_behind most limit before now after bytes (tool.Refused why) fed is read = (read.0 ∙ fed.counted, read.1, larger most limit before.left now.left bytes fed.read is read.2)
stopped_behind most limit before now after bytes tool.ReadFault fed is read = subst (λ n. Rose n after.faults) fed.counted read
stopped_behind most limit before now after bytes tool.WriteFault fed is read = absurd read
stopped_behind most limit before now after bytes tool.NoMemory fed is read = read ∙ fed.counted

-- all that was read is the whole source
whole_read : (before now after : Option (List ℕ)) (bytes more : List ℕ) → HasRead before now bytes → IfSome now (λ source. (source ≡ more) × (after ≡ Some [])) → IfSome before (λ source. (source ≡ bytes ++ more) × (after ≡ Some []))
whole_read None now after bytes more read rest = tt
whole_read (Some source) now after bytes more read rest =
    let left = subst (λ (o : Option (List ℕ)). IfSome o (λ source. (source ≡ more) × (after ≡ Some []))) read.1 rest in
    (read.2 ∙ ap (λ (xs : List ℕ). bytes ++ xs) left.0, left.1)

pub whole_behind : (most limit : ℕ) (before now after : SourceState) (bytes more : List ℕ) → HasFed before now bytes → length bytes + most ≡ limit → ReadsUpTo most now after (Ok more) → ReadsUpTo limit before after (Ok (bytes ++ more))
whole_behind most limit before now after bytes more fed is read =
    (read.0 ∙ fed.counted, omega (arith, length-append bytes more, read.1, is), whole_read before.left now.left after.left bytes more fed.read read.2)

-- the whole source, within its limit
pub whole_stopped : (before after : SourceState) (stop : ToolStop) → ReadsUpTo source_limit before after (Err stop) → ReadsWhole before after (Err stop)
whole_stopped before after (tool.Refused why) read = read
whole_stopped before after tool.ReadFault read = read
whole_stopped before after tool.WriteFault read = read
whole_stopped before after tool.NoMemory read = read

-- a part that was read behind what is kept
pub part_behind : {before now : SourceState} (kept copied rest post room filled : List ℕ) (n : ℕ) → copied ≡ kept → ReadsBytes before now room filled n → n ≤ length filled → ReadsPart before now kept (take (length kept + n) (take (length kept) (copied ++ rest) ++ (filled ++ post))) n
part_behind {before} {now} kept copied rest post room filled n same reads within = record {
  part = take n filled;
  appended = rw (same, take-append_seam kept rest) (take-append-add kept (filled ++ post) n ∙ ap (λ (xs : List ℕ). kept ++ xs) (take-append-le n filled post within));
  counted = length-take-le n filled within;
  fed = fed_read room filled n reads;
  at_end = none_left before.left now.left room filled n reads.moved;
}
