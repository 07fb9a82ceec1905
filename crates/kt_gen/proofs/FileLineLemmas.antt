-- How far the lines of output files are written.
use Rattle.std.proofs.Common.{◌≡◌, ℕ, ◌+◌, ◌<◌, ◌≤◌, List, ◌++◌, length, drop, get_or, sym, ap, ◌∙◌, append_assoc}
use Rattle.std.specs.Prelude.{map}
use Rattle.std.proofs.lemmas.List.{append-nil, drop_all, drop_more}
use Rattle.kt_cells.specs.Taking.{HasMore}
use Rattle.kt_out.specs.NamedFiles.{FileMap}
use Rattle.kt_gen.specs.FileLines.{file_lines, line_of}

-- a line more
pub line-more : {A : Type 0} (texts : FileMap) (name : A → List ℕ) (start out next : List ℕ) (files : List A) (done : ℕ) (d : A) → done < length files
    → next ≡ out ++ line_of (name (get_or files done d)) (texts (name (get_or files done d)))
    → out ++ file_lines texts (map name (drop done files)) ≡ start ++ file_lines texts (map name files)
    → next ++ file_lines texts (map name (drop (done + 1) files)) ≡ start ++ file_lines texts (map name files)
unfolding file_lines
line-more texts name start out next files done d below written now =
    rw (written, append_assoc) (rw (drop_more files done d below) at now)

-- no file is left
pub lines-end : {A : Type 0} (texts : FileMap) (name : A → List ℕ) (start out : List ℕ) (files : List A) (done : ℕ) → length files ≤ done
    → out ++ file_lines texts (map name (drop done files)) ≡ start ++ file_lines texts (map name files) → out ≡ start ++ file_lines texts (map name files)
unfolding file_lines
lines-end texts name start out files done all now = sym (append-nil out) ∙ (rw (drop_all done files all) at now)

-- what was there stands in front of more, and of more behind that
pub begins-more : (old now next : List ℕ) → HasMore old now → HasMore now next → HasMore old next
begins-more old now next begins more = (begins.0 ++ more.0, more.1 ∙ (ap (λ (text : List ℕ). text ++ more.0) begins.1 ∙ append_assoc old begins.0 more.0))

-- of one piece more
pub begins-piece : (old now piece next : List ℕ) → HasMore old now → next ≡ now ++ piece → HasMore old next
begins-piece old now piece next begins is = begins-more old now next begins (piece, is)
