-- The seats of the tags so far are held.
use Rattle.std.proofs.Common.{◌≡◌, ℕ, List, length, take, if◌then◌else◌}
use Rattle.std.specs.List.{IsDistinct}
use Rattle.std.specs.Map.{lookup, keys_of}
use Rattle.std.specs.Option.{option_map}
use Rattle.std.specs.Str.{bytes_eq}
use Rattle.mtp_codes.specs.Names.{is_among}
use Rattle.pol_table.specs.Places.{seat_held_by}
use Rattle.pol_table.proofs.holding.hold_each.Given as goal

abbrev pub invariant-loop-tag : goal.invariant-loop-tag
invariant-loop-tag l = record {
  held : (tag : List ℕ) → lookup (bytes_eq tag) l.seats.entries
      ≡ option_map (λ seat. if is_among (take l.tag-index l.tags) tag then seat_held_by l.batch seat else seat)
      (lookup (bytes_eq tag) l.initial.seats.entries);
  len : length l.seats.entries ≡ length l.initial.seats.entries;
  unique : IsDistinct bytes_eq (keys_of l.seats.entries);
}
