use Rattle.std.proofs.Common.{◌≡◌, ℕ, ◌+◌, ◌<◌, List, [], false, length, Option, sym, ◌∙◌, ap, subst, arith}
use Rattle.std.specs.Prelude.{is_err}
use Rattle.pol_kept.specs.Keeping.{IsFit, Keeps, KeepsAll, KeepsGroup, KeptState, LeavesGroup, Open, items_of}
use Rattle.pol_kept.proofs.Calls.{added, at_ok, if_told, keeps_all, kept_more, none_waits, open_again, open_is}
use Rattle.pol_kept.proofs.kept.Kept.commit.Goals as goal

pub returns-then-is_err-clause-moments : goal.returns-then-is_err-clause-moments
returns-then-is_err-clause-moments g c =
    let d = g.D.Disk in
    let ch = g.C.Chronicle in
    let s : KeptState g.row.C.Denot g.row.D.Denot = record {
      chronicle = c.self.inside.chronicle;
      disk = c.self.inside.disk;
      closed = c.self.inside.closed;
      waiting = c.self.inside.waiting;
    } in
    let some : 0 < c.self.inside.waiting = omega (arith, c.if-self-eq0.false) in
    let o : Open s.closed (IsFit c.self.inside.end s.waiting c.deref.result.now
    × Keeps ch.work (d.bytes s.disk) (d.images s.disk) c.self.inside.end c.deref.result.now
    (items_of ch.work ch.state s) s.waiting) =
    subst (λ (l : List ℕ). Open s.closed (IsFit c.self.inside.end s.waiting l
    × Keeps ch.work (d.bytes s.disk) (d.images s.disk) c.self.inside.end l
    (items_of ch.work ch.state s) s.waiting)) (sym c.deref.ensures.value) c.self.invariant in
    subst (λ (t : KeptState g.row.C.Denot g.row.D.Denot). LeavesGroup ch.work ch.state d.bytes d.moment d.left_since t
    c.add.new.disk) c.self.view_is
    (added ch.work ch.state d.bytes d.images d.moment d.left_since g.met.D.Disk.only_now s
    c.self.inside.end c.deref.result.now c.add.new.disk o some c.add.ensures.moments)

pub returns-clause-moments : goal.returns-clause-moments
returns-clause-moments g c =
    let d = g.D.Disk in
    let ch = g.C.Chronicle in
    let s : KeptState g.row.C.Denot g.row.D.Denot = record {
      chronicle = c.self.inside.chronicle;
      disk = c.self.inside.disk;
      closed = c.self.inside.closed;
      waiting = c.self.inside.waiting;
    } in
    let some : 0 < c.self.inside.waiting = omega (arith, c.if-self-eq0.false) in
    let o : Open s.closed (IsFit c.self.inside.end s.waiting c.deref.result.now
    × Keeps ch.work (d.bytes s.disk) (d.images s.disk) c.self.inside.end c.deref.result.now
    (items_of ch.work ch.state s) s.waiting) =
    subst (λ (l : List ℕ). Open s.closed (IsFit c.self.inside.end s.waiting l
    × Keeps ch.work (d.bytes s.disk) (d.images s.disk) c.self.inside.end l
    (items_of ch.work ch.state s) s.waiting)) (sym c.deref.ensures.value) c.self.invariant in
    subst (λ (t : KeptState g.row.C.Denot g.row.D.Denot). LeavesGroup ch.work ch.state d.bytes d.moment d.left_since t
    c.add.new.disk) c.self.view_is
    (added ch.work ch.state d.bytes d.images d.moment d.left_since g.met.D.Disk.only_now s
    c.self.inside.end c.deref.result.now c.add.new.disk o some c.add.ensures.moments)

pub returns-clause-kept : goal.returns-clause-kept
returns-clause-kept g c =
    let d = g.D.Disk in
    let ch = g.C.Chronicle in
    let s : KeptState g.row.C.Denot g.row.D.Denot = record {
      chronicle = c.self.inside.chronicle;
      disk = c.self.inside.disk;
      closed = c.self.inside.closed;
      waiting = c.self.inside.waiting;
    } in
    let some : 0 < c.self.inside.waiting = omega (arith, c.if-self-eq0.false) in
    let o : Open s.closed (IsFit c.self.inside.end s.waiting c.deref.result.now
    × Keeps ch.work (d.bytes s.disk) (d.images s.disk) c.self.inside.end c.deref.result.now
    (items_of ch.work ch.state s) s.waiting) =
    subst (λ (l : List ℕ). Open s.closed (IsFit c.self.inside.end s.waiting l
    × Keeps ch.work (d.bytes s.disk) (d.images s.disk) c.self.inside.end l
    (items_of ch.work ch.state s) s.waiting)) (sym c.deref.ensures.value) c.self.invariant in
    let good : is_err c.add.result ≡ false = sym c.is_err.ensures.value ∙ c.if-is_err.false in
    let more = kept_more ch.work ch.state d.bytes d.images d.moment d.left_since g.met.D.Disk.only_now s
    c.self.inside.end c.deref.result.now c.add.new.disk o some (at_ok c.add.result good c.add.ensures.kept)
    c.if-self.false in
    subst (λ (t : KeptState g.row.C.Denot g.row.D.Denot). KeepsAll ch.work ch.state d.bytes d.images t c.add.new.disk)
    c.self.view_is
    (keeps_all ch.work ch.state d.bytes d.images d.moment d.left_since g.met.D.Disk.only_now s
    c.self.inside.end c.deref.result.now c.add.new.disk more)

pub invariant_of-self-2 : goal.invariant_of-self-2
invariant_of-self-2 g c =
    let d = g.D.Disk in
    let ch = g.C.Chronicle in
    let s : KeptState g.row.C.Denot g.row.D.Denot = record {
      chronicle = c.self.inside.chronicle;
      disk = c.self.inside.disk;
      closed = c.self.inside.closed;
      waiting = c.self.inside.waiting;
    } in
    let some : 0 < c.self.inside.waiting = omega (arith, c.if-self-eq0.false) in
    let o : Open s.closed (IsFit c.self.inside.end s.waiting c.deref.result.now
    × Keeps ch.work (d.bytes s.disk) (d.images s.disk) c.self.inside.end c.deref.result.now
    (items_of ch.work ch.state s) s.waiting) =
    subst (λ (l : List ℕ). Open s.closed (IsFit c.self.inside.end s.waiting l
    × Keeps ch.work (d.bytes s.disk) (d.images s.disk) c.self.inside.end l
    (items_of ch.work ch.state s) s.waiting)) (sym c.deref.ensures.value) c.self.invariant in
    let good : is_err c.add.result ≡ false = sym c.is_err.ensures.value ∙ c.if-is_err.false in
    let more = kept_more ch.work ch.state d.bytes d.images d.moment d.left_since g.met.D.Disk.only_now s
    c.self.inside.end c.deref.result.now c.add.new.disk o some (at_ok c.add.result good c.add.ensures.kept)
    c.if-self.false in
    let items : List ch.Plain = items_of ch.work ch.state s in
    let seen : Option (List ℕ) = d.bytes c.add.new.disk in
    let size : c.self.inside.end + c.len.result ≡ c.self.inside.end + length c.deref.result.now =
    omega (arith, c.len.ensures, c.deref.ensures.len) in
    let was = open_is c.self.inside.closed _ c.if-self.false o in
    open_again c.self.inside.closed (IsFit (c.self.inside.end + c.len.result) 0 c.clear.new.self.items
    × Keeps ch.work seen (d.images c.add.new.disk) (c.self.inside.end + c.len.result) c.clear.new.self.items items 0) (
      record { fits = omega (arith, size, was.0.fits, ap length c.clear.ensures.items); long = omega arith },
      if_told (d.bytes c.self.inside.disk) seen
          (KeepsGroup ch.work seen (d.images c.add.new.disk) (c.self.inside.end + c.len.result)
          c.clear.new.self.items items 0)
          (at_ok c.add.result good c.add.ensures.told)
          (λ all told. subst (λ (l : List ℕ). KeepsGroup ch.work seen (d.images c.add.new.disk)
          (c.self.inside.end + c.len.result) l items 0) (sym c.clear.ensures.items)
          (subst (λ (n : ℕ). KeepsGroup ch.work seen (d.images c.add.new.disk) n [] items 0) (sym size)
          (none_waits ch.work seen (d.images c.add.new.disk) (c.self.inside.end + length c.deref.result.now) items
          (more all told)))),
    )
