use Rattle.std.proofs.Common.{ℕ, ◌<◌, ◌^◌, List, length, Option, sym, ap, subst, arith, rules}
use Rattle.pol_disk.proofs.Telling.{was_told}
use Rattle.pol_kept.specs.Keeping.{KeepsGroup}
use Rattle.pol_kept.specs.Opens.{IsOpened}
use Rattle.pol_kept.proofs.Calls.{if_now, none_waits}
use Rattle.pol_kept.proofs.Texts.{kept_stands}
use Rattle.pol_kept.proofs.kept.Kept.open.Goals as goal

pub invariant_of-store : goal.invariant_of-store
invariant_of-store g c =
    let d = g.D.Disk in
    let ch = g.C.Chronicle in
    let seen : Option (List ℕ) = d.bytes c.open_on.new.disk in
    let items : List ch.Plain = ch.work.items (ch.state c.in-Ok.field-0.chronicle) in
    let small : c.in-Ok.field-0.end < 2 ^ 64 = search rules in (
      record { fits = omega (arith, ap length c.new.ensures.items, small); long = omega arith },
      if_now seen (KeepsGroup ch.work seen (d.images c.open_on.new.disk) c.in-Ok.field-0.end c.new.result.items items 0)
          (λ now later.
          let first = was_told (d.bytes c.args.disk) seen c.in-Ok.ensures.on now later in
          let opened : IsOpened ch.work first.0 seen (d.images c.open_on.new.disk) c.in-Ok.field-0.end items =
          c.in-Ok.ensures.opened first.0 now first.1 later in
          subst (λ (l : List ℕ). KeepsGroup ch.work seen (d.images c.open_on.new.disk) c.in-Ok.field-0.end l items 0)
          (sym c.new.ensures.items)
          (none_waits ch.work seen (d.images c.open_on.new.disk) c.in-Ok.field-0.end items opened.kept)),
    )

pub returns-in-Ok-clause-stand : goal.returns-in-Ok-clause-stand
returns-in-Ok-clause-stand g c = λ now later image left.
    let d = g.D.Disk in
    let ch = g.C.Chronicle in
    let items : List ch.Plain = ch.work.items (ch.state c.in-Ok.field-0.chronicle) in
    let first = was_told (d.bytes c.args.disk) (d.bytes c.open_on.new.disk) c.in-Ok.ensures.on now later in
    let opened : IsOpened ch.work first.0 (d.bytes c.open_on.new.disk) (d.images c.open_on.new.disk)
    c.in-Ok.field-0.end items =
    c.in-Ok.ensures.opened first.0 now first.1 later in
    kept_stands ch.work (d.bytes c.open_on.new.disk) (d.images c.open_on.new.disk) c.in-Ok.field-0.end items
    opened.kept image
    left

pub returns-in-Ok-clause-stood : goal.returns-in-Ok-clause-stood
returns-in-Ok-clause-stood g c = λ all now told later. (c.in-Ok.ensures.opened all now told later).stood
