-- How far the rows of a text are read, of which the source gives part after part.
use Rattle.std.proofs.Common.{◌≡◌, ℕ, ◌+◌, ◌-◌, ◌≤◌, Bool, List, [], ◌++◌, length, Result, Ok, Err, refl, sym, ap, subst, ◌∙◌, append_assoc, arith, inl, inr}
use Rattle.std.specs.Prelude.{OnOk, IfErr}
use Rattle.std.proofs.lemmas.List.{append-nil, length-append}
use Rattle.kt_out.specs.Reading.{SourceState}
use Rattle.kt_text.specs.PlainText.{csv_records}
use Rattle.kt_cells.specs.Reading.{behind, table_rows}
use Rattle.kt_cells.specs.Records.{records_bytes}
use Rattle.kt_cells.specs.Stops.{Tells}
use Rattle.kt_cells.specs.Taking.{HandsFront, HandsOver, TakesMore}
use Rattle.kt_cells.specs.Texts.{text_value}
use Rattle.kt_rec.specs.declared.kind.Kind.{Kind}
use Rattle.kt_cells.specs.declared.stop.TableStop.{TableStop}
use Rattle.kt_ends.specs.declared.tool_stop.ToolStop.{ToolStop}
use Rattle.kt_front.specs.Converting.{IsTableStop}
use Rattle.kt_front.specs.SourceText.{HasFed, ReadsFront, ReadsPart, ReadsText, ReadsUpTo}
use Rattle.kt_front.proofs.Reading.{fed_then, stopped_behind, whole_behind}

-- rows in front of rows that are in front
front_then : {S : Type 0} (takes_to : S → List (List ℕ) → S → Type 0) (old now new : S) (all left rest : Result (List (List ℕ)) TableStop) → HandsFront (TakesMore takes_to old now) all left → HandsFront (TakesMore takes_to now new) left rest → HandsFront (TakesMore takes_to old new) all rest
front_then takes_to old now new all left rest one two = record {
  rows = one.rows ++ two.rows;
  are_taken = λ start rows held. subst (λ taken. takes_to start taken new) (append_assoc rows one.rows two.rows) (two.are_taken start (rows ++ one.rows) (one.are_taken start rows held));
  so_far = one.so_far ∙ ap (behind one.rows) two.so_far ∙ behind_behind one.rows two.rows rest;
}
  where
    behind_behind : {A E : Type 0} (xs ys : List A) (rest : Result (List A) E) → behind xs (behind ys rest) ≡ behind (xs ++ ys) rest
    behind_behind xs ys (Ok more) = ap Ok (sym (append_assoc xs ys more))
    behind_behind xs ys (Err e) = refl

-- rows more, of a part more
pub front_more : {S : Type 0} (takes_to : S → List (List ℕ) → S → Type 0) (kinds : List Kind) (ordered : Bool) (before now after : SourceState) (old mid new : S) (there kept text rest : List ℕ) (count floor most left count' floor' n : ℕ) → ReadsFront takes_to kinds ordered before now old mid there kept count floor most left
    → ReadsPart now after kept text n → n ≤ left → ((more : List ℕ) → HandsFront (TakesMore takes_to mid new) (table_rows text_value ordered 1 kinds floor (count + 1) (csv_records (text ++ more))) (table_rows text_value ordered 1 kinds floor' (count' + 1) (csv_records (rest ++ more))))
    → count' + length rest ≤ count + length text → ReadsFront takes_to kinds ordered before after old new there rest count' floor' most (left - n)
front_more takes_to kinds ordered before now after old mid new there kept text rest count floor most left count' floor' n read part enough rows within =
    let parts = part.part in
    record {
      more = read.more ++ parts;
      fed = fed_then read.fed part.fed;
      few = omega (arith, length-append read.more parts, read.few, part.counted, enough);
      front = λ next.
          let joined : kept ++ (parts ++ next) ≡ text ++ next = sym (append_assoc kept parts next) ∙ ap (λ (xs : List ℕ). xs ++ next) (sym part.appended) in
          let one = rw (joined, sym (append_assoc read.more parts next)) at (read.front (parts ++ next)) in
          front_then takes_to old mid new _ _ _ one (rows next);
      within = omega (arith, length-append read.more parts, read.within, within, ap length part.appended, length-append kept parts);
    }

-- how the reading ended
pub rows_ended : {P : List (List ℕ) → Type 0} (most : ℕ) (rows : List ℕ → Result (List (List ℕ)) TableStop) (before after : SourceState) (more : List ℕ) (read : Result (Unit {0}) TableStop) (result : Result (Unit {0}) ToolStop) → ReadsUpTo most before after (Ok more)
    → (read ≡ Ok tt → HandsOver P (rows more)) → ((why : TableStop) → read ≡ Err why → Tells (rows more) why) → OnOk result (read ≡ Ok tt) → IfErr result (λ stop. (why : TableStop) × (read ≡ Err why) × IsTableStop why stop) → ReadsText most P rows before after result
rows_ended most rows before after more read (Ok done) whole handed told ok refused = (more, whole, handed ok)
rows_ended most rows before after more read (Err stop) whole handed told ok refused = inr (more, refused.0, whole, told refused.0 refused.1, refused.2)

-- what a clause says of a good result, and of a refused one
pub of_ok : {A E : Type 0} {P : Type 0} (result : Result A E) (x : A) → result ≡ Ok x → OnOk result P → P
of_ok {P = P} result x is holds = subst (λ r. OnOk r P) is holds

pub of_err : {A E : Type 0} (P : E → Type 0) (result : Result A E) (e : E) → result ≡ Err e → IfErr result P → P e
of_err P result e is holds = subst (λ r. IfErr r P) is holds

-- behind a part that was read
pub rows_behind : {T : Type 0} (P : List (List ℕ) → Type 0) (left limit : ℕ) (rows others : List ℕ → Result (List (List ℕ)) TableStop) (before now after : SourceState) (text : List ℕ) (result : Result T ToolStop) → HasFed before now text → length text + left ≡ limit
    → ((more : List ℕ) → others more ≡ rows (text ++ more)) → ReadsText left P others now after result → ReadsText limit P rows before after result
rows_behind P left limit rows others before now after text (Ok done) fed is same read =
    (text ++ read.0, whole_behind left limit before now after text read.0 fed is read.1, subst (HandsOver P) (same read.0) read.2)
rows_behind P left limit rows others before now after text (Err stop) fed is same (inl stopped) = inl (stopped_behind left limit before now after text stop fed is stopped)
rows_behind P left limit rows others before now after text (Err stop) fed is same (inr refused) =
    inr (text ++ refused.0, refused.1, whole_behind left limit before now after text refused.0 fed is refused.2, subst (λ (r : Result (List (List ℕ)) TableStop). Tells r refused.1) (same refused.0) refused.3, refused.4)
