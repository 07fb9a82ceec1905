-- The texts that files gain.
use Rattle.std.proofs.Common.{◌≡◌, ℕ, List, [], ◌∷◌, ◌++◌, map, Result, refl, sym, ap, subst, ◌∙◌, append-nil}
use Rattle.std.specs.List.{flat_map}
use Rattle.std.proofs.lemmas.Grind.{flat_map-append}
use Rattle.kt_cell.specs.Losses.{Added}
use Rattle.kt_cell.specs.Standing.{KeptCells}
use Rattle.kt_files.specs.Endings.{AreEndings}
use Rattle.kt_files.specs.OutputFiles.{output_name}
use Rattle.kt_files.specs.Parts.{block_text, end_text, head_text}
use Rattle.kt_files.specs.declared.file.OutputFile.{OutputFile}
use Rattle.kt_files.specs.declared.made.FileRows.{FileRows}
use Rattle.kt_out.specs.NamedFiles.{File}
use Rattle.kt_out.specs.OutputFiles.{OutputsState}
use Rattle.kt_out.specs.declared.fault.Fault.{Fault}
use Rattle.kt_outputs.specs.Files.{Makes, file_with, files_with}
use Rattle.kt_outputs.specs.Texts.{joined, no_text}
use Rattle.kt_rec.specs.Rows.{Rows}
use Rattle.kt_chain.specs.RoundRows.{PartRows, part_text}
use Rattle.kt_fold.specs.Folds.{blocks_of}
use Rattle.kt_fold.specs.declared.part.PartBlock.{PartBlock}

-- files with the same texts are the same
pub same_files : {F : Type 0} (name text other : F → List ℕ) → ((file : F) → text file ≡ other file) → (files : List F) → files_with name text files ≡ files_with name other files
same_files name text other same [] = refl
same_files name text other same (file ∷ files) = ap (λ (bytes : List ℕ). file_with (name file) bytes ∷ files_with name text files) (same file) ∙ ap (λ (more : List File). file_with (name file) (other file) ∷ more) (same_files name text other same files)

-- one piece is the whole text
pub one_piece : (text : List ℕ) → joined (text ∷ []) ≡ text
one_piece text = append-nil text

-- the pieces of parts are the rows of their blocks
pub pieces_joined : (samples : ℕ) (made : PartRows) (file : OutputFile) (parts : List PartBlock) → joined (map (part_text made file) parts) ≡ flat_map (block_text made.samples made.rows file) (blocks_of parts)
pieces_joined samples made file [] = refl
pieces_joined samples made file (part ∷ parts) =
    ap (λ (more : List ℕ). part_text made file part ++ more) (pieces_joined samples made file parts)
    ∙ sym (flat_map-append (block_text made.samples made.rows file) part.blocks (blocks_of parts))

-- the rows of parts were appended to files, which are others by name
pub kept_made : (inside files : List OutputFile) → inside ≡ files → (samples samples_are : ℕ) → samples ≡ samples_are → (rows rows_are : Rows) → rows ≡ rows_are → (parts kept : List PartBlock) → parts ≡ kept → (own : List (List FileRows))
    → (before after : OutputsState) (answer : Result (Unit {0}) Fault) (text : OutputFile → List ℕ)
    → Makes (files_with output_name text inside) (files_with output_name (λ file. text file ++ joined (map (part_text (record { samples = samples; rows = rows; parts = parts; made = own }) file) parts)) inside) before after answer
    → Makes (files_with output_name text files) (files_with output_name (λ file. text file ++ flat_map (block_text samples_are rows_are file) (blocks_of kept)) files) before after answer
kept_made inside files files_are samples samples_are same_samples rows rows_are same_rows parts kept same_parts own before after answer text made =
    let made_of : PartRows = record { samples = samples; rows = rows; parts = parts; made = own } in
    let longer : OutputFile → List ℕ = λ file. text file ++ joined (map (part_text made_of file) parts) in
    let wanted : OutputFile → List ℕ = λ file. text file ++ flat_map (block_text samples_are rows_are file) (blocks_of kept) in
    let same : (file : OutputFile) → longer file ≡ wanted file = λ file.
    ap (λ (more : List ℕ). text file ++ more)
    (pieces_joined samples made_of file parts
    ∙ ap (λ (n : ℕ). flat_map (block_text n rows file) (blocks_of parts)) same_samples
    ∙ ap (λ (r : Rows). flat_map (block_text samples_are r file) (blocks_of parts)) same_rows
    ∙ ap (λ (ps : List PartBlock). flat_map (block_text samples_are rows_are file) (blocks_of ps)) same_parts) in
    subst (λ (list : List OutputFile). Makes (files_with output_name text list) (files_with output_name wanted list) before after answer) files_are
    (subst (λ (now : List File). Makes (files_with output_name text inside) now before after answer) (same_files output_name longer wanted same inside) made)

-- the heads were appended to files without a text
pub heads_made : (files : List OutputFile) (before after : OutputsState) (answer : Result (Unit {0}) Fault)
    → Makes (files_with output_name (no_text {F = OutputFile}) files) (files_with output_name (λ file. joined (head_text file ∷ [])) files) before after answer
    → Makes (files_with output_name (no_text {F = OutputFile}) files) (files_with output_name head_text files) before after answer
heads_made files before after answer made =
    subst (λ (now : List File). Makes (files_with output_name (no_text {F = OutputFile}) files) now before after answer)
    (same_files output_name (λ (file : OutputFile). joined (head_text file ∷ [])) head_text (λ file. one_piece (head_text file)) files) made

-- the ends were appended to files, which are others by name, of cells that are others by name
pub ends_made : (inside files : List OutputFile) → inside ≡ files → (rows rows_are : Rows) → rows ≡ rows_are → (cells cells_are : KeptCells) → cells ≡ cells_are → (history : List Added) → AreEndings history rows_are cells_are
    → (before after : OutputsState) (answer : Result (Unit {0}) Fault) (text : OutputFile → List ℕ)
    → (AreEndings history rows cells → Makes (files_with output_name text inside) (files_with output_name (λ file. text file ++ joined (end_text cells.samples rows history file ∷ [])) inside) before after answer)
    → Makes (files_with output_name text files) (files_with output_name (λ file. text file ++ end_text cells_are.samples rows_are history file) files) before after answer
ends_made inside files files_are rows rows_are same_rows cells cells_are same_cells history are before after answer text made =
    let longer : OutputFile → List ℕ = λ file. text file ++ joined (end_text cells.samples rows history file ∷ []) in
    let wanted : OutputFile → List ℕ = λ file. text file ++ end_text cells_are.samples rows_are history file in
    let here : AreEndings history rows cells = subst (λ (r : Rows). AreEndings history r cells) (sym same_rows) (subst (λ (kept : KeptCells). AreEndings history rows_are kept) (sym same_cells) are) in
    let same : (file : OutputFile) → longer file ≡ wanted file = λ file.
    ap (λ (more : List ℕ). text file ++ more)
    (one_piece (end_text cells.samples rows history file)
    ∙ ap (λ (r : Rows). end_text cells.samples r history file) same_rows
    ∙ ap (λ (kept : KeptCells). end_text kept.samples rows_are history file) same_cells) in
    subst (λ (list : List OutputFile). Makes (files_with output_name text list) (files_with output_name wanted list) before after answer) files_are
    (subst (λ (now : List File). Makes (files_with output_name text inside) now before after answer) (same_files output_name longer wanted same inside) (made here))
