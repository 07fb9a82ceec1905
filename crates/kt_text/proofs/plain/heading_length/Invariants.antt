use Rattle.std.proofs.Common.{◌≡◌, false, take}
use Rattle.std.specs.List.{list_any}
use Rattle.kt_text.specs.PlainText.{ends_heading}
use Rattle.kt_text.proofs.plain.heading_length.Given as goal

abbrev pub invariant-loop-place : goal.invariant-loop-place
invariant-loop-place l = list_any ends_heading (take l.place l.text) ≡ false
