-- The text of each output file with the rows of some events, and whole.
-- The rules: docs/OUTPUTS.md, "Files of a run".
use Rattle.std.specs.Prelude.{ℕ, List, ◌++◌}
use Rattle.std.specs.List.{flat_map}
use Rattle.kt_files.specs.OutputFiles.{output_files, output_name}
use Rattle.kt_files.specs.Parts.{block_text, end_text, head_text}
use Rattle.kt_files.specs.declared.file.OutputFile.{OutputFile}
use Rattle.kt_out.specs.NamedFiles.{File}
use Rattle.kt_outputs.specs.Files.{files_with}
use Rattle.kt_chain.specs.Events.{RunInput, all_added, block_of}

-- what an event adds to a file
abbrev pub event_text : RunInput → OutputFile → ℕ → List ℕ
event_text run file event = block_text run.terms.samples run.rows file (block_of run event)

-- the text of a file with the rows of these events
abbrev pub text_upto : RunInput → List ℕ → OutputFile → List ℕ
text_upto run events file = head_text file ++ flat_map (event_text run file) events

-- the text of a file that has all rows of these events, its end among them
abbrev pub text_whole : RunInput → List ℕ → OutputFile → List ℕ
text_whole run events file = text_upto run events file ++ end_text run.terms.samples run.rows (all_added run events) file

-- the files with the rows of these events, and no table over all periods
abbrev pub files_upto : RunInput → List ℕ → List File
files_upto run events = files_with output_name (text_upto run events) (output_files run.rows run.terms.last)

-- the files with all rows of these events
abbrev pub files_whole : RunInput → List ℕ → List File
files_whole run events = files_with output_name (text_whole run events) (output_files run.rows run.terms.last)
