use Rattle.std.proofs.Common.{◌≡◌, ◌≤◌, take, true}
use Rattle.std.specs.Char.{is_ascii_digit}
use Rattle.std.specs.List.{list_all}
use Rattle.std.specs.Str.Parse.{digits_value}
use Rattle.pol_lines.proofs.leaf.digits.Given as goal

abbrev pub invariant-loop-i : goal.invariant-loop-i
invariant-loop-i l = record {
  few : l.i ≤ 18;
  digits : list_all is_ascii_digit (take l.i l.text) ≡ true;
  value : l.value ≡ digits_value 10 (take l.i l.text);
}
