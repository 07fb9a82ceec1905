use Rattle.std.proofs.Common.{◌≡◌, ◌^◌, ◌<◌, ◌≤◌, take}
use Rattle.std.specs.Str.Parse.{AllDigits, digits_value}
use Rattle.kt_text.proofs.front_digits.front_digits.Given as goal

abbrev pub invariant-loop-count : goal.invariant-loop-count
invariant-loop-count l = (l.count ≤ 18) × (l.value < 10 ^ l.count) × AllDigits 10 (take l.count l.text) × (l.value ≡ digits_value 10 (take l.count l.text))
