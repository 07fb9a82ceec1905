use Rattle.std.proofs.Common.{◌≡◌, ℕ, ◌++◌, drop, take}
use Rattle.std.specs.List.{sum}
use Rattle.kt_model.specs.Distribution.{bins_behind}
use Rattle.kt_model.specs.Scratch.{AreChances}
use Rattle.kt_model.proofs.bins.make_bins.Given as goal

abbrev pub invariant-loop-place : goal.invariant-loop-place
invariant-loop-place l = record {
  before : l.before ≡ sum (take l.place l.chances);
  bins : (chance : ℕ → ℕ) → AreChances chance l.chances l.dictionary → l.bins ++ bins_behind chance l.before (drop l.place l.dictionary) ≡ bins_behind chance 0 l.dictionary;
}
