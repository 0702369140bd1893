use Rattle.std.proofs.Common.{◌≡◌, ◌&&◌, ◌||◌, ℕ, List, take}
use Rattle.std.specs.List.{list_any}
use Rattle.mtp_codes.specs.Names.{is_among}
use Rattle.pol_policy.specs.Names.{name_has}
use Rattle.pol_policy.specs.Tables.{above_has}
use Rattle.pol_policy.proofs.belonging.give_members.Given as goal

abbrev pub invariant-loop-i : goal.invariant-loop-i
invariant-loop-i l = (name : List ℕ) (place : ℕ) → name_has l.index name place
    ≡ (name_has l.initial.index name place
    || list_any (λ last. is_among last.members.items name && above_has l.groups l.initial.index last place)
    (take l.i l.groups))
