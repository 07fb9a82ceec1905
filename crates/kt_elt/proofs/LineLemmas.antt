-- A line of a table, a field at a time from its end.
use Rattle.std.proofs.Common.{◌≡◌, ℕ, List, [], ◌∷◌, ◌++◌, append_assoc, ap, sym, ◌∙◌}
use Rattle.std.specs.List.{join_with_byte}
use Rattle.kt_elt.specs.EventLoss.{table_line}

-- a field and a comma in front of a line are a line with one field more
pub field_in_front : (field next : List ℕ) (later : List (List ℕ)) (behind before comma new : List ℕ) → before ≡ table_line (next ∷ later) ++ behind → comma ≡ 44 ∷ before → new ≡ field ++ comma → new ≡ table_line (field ∷ next ∷ later) ++ behind
field_in_front field next later behind before comma new line is_comma is_new =
    let rest = join_with_byte 44 (next ∷ later) in
    is_new
    ∙ ap (λ (items : List ℕ). field ++ items) is_comma
    ∙ ap (λ (items : List ℕ). field ++ 44 ∷ items) line
    ∙ sym (append_assoc field (44 ∷ rest ++ 10 ∷ []) behind)
    ∙ ap (λ (items : List ℕ). items ++ behind) (sym (append_assoc field (44 ∷ rest) (10 ∷ [])))
