-- How the making of a footprint's text ends.
use Rattle.std.proofs.Common.{◌≡◌, ℕ, List, length, All, Some, None, sym, ap, subst, inl, inr}
use Rattle.kt_checks.specs.CheckLaws.{each_placed}
use Rattle.kt_checks.specs.TableChecks.{is_misplaced}
use Rattle.kt_ends.specs.declared.tool_stop.ToolStop.{ToolStop}
use Rattle.kt_keys.specs.FirstRow.{first_where}
use Rattle.kt_rec.specs.declared.hazard.FootprintIdx.{FootprintIdx}
use Rattle.kt_schema.specs.Footprint.{IsEntryOf, footprint_csv}
use Rattle.kt_front.specs.Converting.{StopsText, converted}
use Rattle.kt_front.specs.FootprintText.{IsPlaceStop, text_of, text_unless}

-- rows of the index that check 9 passes are entries of the footprint
pub are_entries : (index : List FootprintIdx) (size : ℕ) → first_where (is_misplaced size) index ≡ None → All (IsEntryOf size) index
are_entries index size none = λ k d below. let placed = each_placed size index none k d below in record { behind_header = placed.behind_header; whole_place = placed.whole_place; whole_size = placed.whole_size; few = placed.few; within = placed.within }

-- the text of a footprint whose index check 9 passes
pub text_is : (index : List FootprintIdx) (bytes : List ℕ) → first_where (is_misplaced (length bytes)) index ≡ None → text_of index bytes ≡ converted (footprint_csv bytes index)
text_is index bytes none = ap (text_unless index bytes) none

-- a row of the index that check 9 refuses, and how that ends the tool
pub stops_place : (index : List FootprintIdx) (bytes : List ℕ) (row : ℕ) (end : ToolStop) → first_where (is_misplaced (length bytes)) index ≡ Some row → IsPlaceStop row end → StopsText (text_of index bytes) end
stops_place index bytes row end is (inl ends) = subst (StopsText (text_of index bytes)) (sym ends) (ap (text_unless index bytes) is, λ missing. missing)
stops_place index bytes row end is (inr ends) = subst (StopsText (text_of index bytes)) (sym ends) tt
