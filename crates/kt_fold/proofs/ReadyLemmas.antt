-- What was made for the elements of a list, one after the other, and the records of a block by other rows.
use Rattle.std.proofs.Common.{◌≡◌, ◌<◌, ℕ, ◌+◌, List, [], ◌∷◌, ◌++◌, length, map, drop, slice_index_or, refl, sym, ap, subst, ◌∙◌, append_assoc, append-nil}
use Rattle.std.specs.Prelude.{All}
use Rattle.std.specs.List.{flat_map}
use Rattle.std.proofs.lemmas.List.Concat.{flat_map-cons}
use Rattle.std.proofs.lemmas.List.Elements.{All-head, All-tail}
use Rattle.kt_block.specs.declared.block.EventBlock.{EventBlock}
use Rattle.kt_block.specs.declared.block.Summaries.{Summaries}
use Rattle.kt_cell.specs.Losses.{Added}
use Rattle.kt_rec.specs.Rows.{Rows}
use Rattle.kt_rec.specs.declared.periods.Occurrence.{Occurrence}
use Rattle.kt_stream.specs.declared.entry.SummaryRecord.{SummaryRecord}
use Rattle.kt_tables.specs.Lookups.{occurrences_of}
use Rattle.kt_fold.specs.Added.{block_added, record_added, summaries_added}
use Rattle.kt_fold.specs.ReadyParts.{AreMadeFor, IsOfEvent}
use Rattle.kt_fold.proofs.ListLemmas.{one_left}

module _ {X R : Type 0} (of : X → R → Type 0) where
  -- with what is made for the elements from a place on it is what is made for all
  abbrev pub MadeUpto : List R → List X → ℕ → Type 0
  MadeUpto made xs i = (later : List R) → AreMadeFor of later (drop i xs) → AreMadeFor of (made ++ later) xs

  pub made_all : (made : List R) (xs : List X) (i : ℕ) → MadeUpto made xs i → AreMadeFor of made xs
  made_all made xs i upto = subst (λ (all : List R). AreMadeFor of all xs) (append-nil made) (upto [] tt)

  -- the next one of what is left, or another
  first_made : (made : List R) (x : X) (xs : List X) (other : R) → of x other → AreMadeFor of made (x ∷ xs) → of x (slice_index_or made 0 other)
  first_made [] x xs other is are = is
  first_made (r ∷ made) x xs other is are = are.0

  rest_made : (made : List R) (x : X) (xs : List X) → AreMadeFor of made (x ∷ xs) → AreMadeFor of (drop 1 made) xs
  rest_made [] x xs are = tt
  rest_made (r ∷ made) x xs are = are.1

  module _ (xs : List X) (i : ℕ) (x : X) (below : i < length xs) (is : x ≡ slice_index_or xs i x) where
    pub one_made : (made : List R) (r : R) → of x r → MadeUpto made xs i → MadeUpto (made ++ r ∷ []) xs (i + 1)
    one_made made r one upto later are =
        subst (λ (all : List R). AreMadeFor of all xs) (sym (append_assoc made (r ∷ []) later))
        (upto (r ∷ later) (subst (AreMadeFor of (r ∷ later)) (sym (one_left xs i x below is)) (one, are)))

    pub next_made : (made : List R) (other : R) → of x other → AreMadeFor of made (drop i xs) → of x (slice_index_or made 0 other)
    next_made made other one are = first_made made x (drop (i + 1) xs) other one (subst (AreMadeFor of made) (one_left xs i x below is) are)

    pub left_made : (made : List R) → AreMadeFor of made (drop i xs) → AreMadeFor of (drop 1 made) (drop (i + 1) xs)
    left_made made are = rest_made made x (drop (i + 1) xs) (subst (AreMadeFor of made) (one_left xs i x below is) are)

-- ---- the records of a block, wherever its event has the same occurrences

module _ (one other : Rows) (event : ℕ) (same : occurrences_of one event ≡ occurrences_of other event) where
  summaries_same : (summaries : Summaries) → All (λ entry. entry.event ≡ event) summaries.records → summaries_added one summaries ≡ summaries_added other summaries
  summaries_same summaries are = all summaries.records are
    where
      of_event : SummaryRecord → Type 0
      of_event entry = entry.event ≡ event

      all : (entries : List SummaryRecord) → All (λ entry. entry.event ≡ event) entries → map (record_added one summaries) entries ≡ map (record_added other summaries) entries
      all [] are = refl
      all (entry ∷ entries) are =
          let own : occurrences_of one entry.event ≡ occurrences_of other entry.event = rw (All-head of_event entry entries are) same in
          ap (λ (at : List Occurrence). (record { perspective = summaries.perspective; set = summaries.set; entry = entry; at = at }) ∷ map (record_added one summaries) entries) own
          ∙ ap (λ (more : List Added). record_added other summaries entry ∷ more) (all entries (All-tail of_event entry entries are))

  sets_same : (sets : List Summaries) → All (λ summaries. All (λ entry. entry.event ≡ event) summaries.records) sets → flat_map (summaries_added one) sets ≡ flat_map (summaries_added other) sets
  sets_same [] are = refl
  sets_same (summaries ∷ sets) are =
      flat_map-cons (summaries_added one) summaries sets
      ∙ ap (λ (more : List Added). more ++ flat_map (summaries_added one) sets) (summaries_same summaries (All-head (λ (s : Summaries). All (λ entry. entry.event ≡ event) s.records) summaries sets are))
      ∙ ap (λ (more : List Added). summaries_added other summaries ++ more) (sets_same sets (All-tail (λ (s : Summaries). All (λ entry. entry.event ≡ event) s.records) summaries sets are))
      ∙ sym (flat_map-cons (summaries_added other) summaries sets)

pub block_same : (one other : Rows) (block : EventBlock) → IsOfEvent block → occurrences_of one block.event ≡ occurrences_of other block.event → block_added one block ≡ block_added other block
block_same one other block are same = sets_same one other block.event same block.summaries are
