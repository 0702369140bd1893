use Rattle.std.proofs.Common.{◌≡◌, ℕ, ◌<◌, ◌≤◌, List, length, Some, ◌∙◌, subst, arith}
use Rattle.std.proofs.lemmas.Result.{err_from_is_err_and}
use Rattle.pol_disk.proofs.Telling.{still_holds, still_then, told_before, was_told}
use Rattle.pol_texts.specs.Settled.{IsSynced}
use Rattle.pol_kept.specs.Opens.{Breaks, IsOpened, IsReplayed}
use Rattle.pol_kept.proofs.Opened.{breaks_told, bytes_told, fault_tells, left_begun, left_read, number_told, opened_long, opened_short, replayed_stands, same_told}
use Rattle.pol_kept.proofs.opening.open_on.Goals as goal

pub returns-in_err-image-clause-tells : goal.returns-in_err-image-clause-tells
returns-in_err-image-clause-tells g c =
    let d = g.D.Disk in
    let ch = g.C.Chronicle in
    let fault = err_from_is_err_and c.from_residual-in_err-image.result c.from_residual-in_err-image.ensures.1 in
    let long : 1 < c.in_ok-size.size = omega (arith, c.if-size-le1.false) in
    let counted = still_holds (d.bytes c.settle.new.disk) (d.bytes c.load_all.new.disk)
    (λ l. c.in_ok-size.size ≡ length l) c.in_err-image.ensures.bytes c.in_ok-size.ensures.number in
    rw (fault.1, fault.2)
    (fault_tells ch.work g.met.C.Chronicle.lawful c.in_err-image.field-0.0 c.in_ok-size.size (d.bytes c.args.disk.now)
    (d.bytes c.load_all.new.disk)
    (d.faults c.args.disk.now) (d.faults c.load_all.new.disk) c.in_err-image.ensures.breaks
    (still_then (d.bytes c.args.disk.now) (d.bytes c.settle.new.disk) (d.bytes c.load_all.new.disk)
    c.in_ok-size.ensures.bytes c.in_err-image.ensures.bytes)
    (λ other. c.in_err-image.ensures.cause.other other ∙ c.in_ok-size.ensures.cause.done) long counted)

pub returns-in_err-chronicle-clause-tells : goal.returns-in_err-chronicle-clause-tells
returns-in_err-chronicle-clause-tells g c =
    let d = g.D.Disk in
    let ch = g.C.Chronicle in
    let fault = err_from_is_err_and c.from_residual-in_err-chronicle.result
    c.from_residual-in_err-chronicle.ensures.1 in
    let items : List ℕ = c.in_ok-image.image.items in
    let breaks : Breaks ch.work items c.in_err-chronicle.field-0.0 = subst
    (λ (l : List ℕ). Breaks ch.work l c.in_err-chronicle.field-0.0) c.deref.ensures.value
    c.in_err-chronicle.ensures.breaks in
    let long : 1 < c.in_ok-size.size = omega (arith, c.if-size-le1.false) in
    let counted = still_holds (d.bytes c.settle.new.disk) (d.bytes c.load_all.new.disk)
    (λ l. c.in_ok-size.size ≡ length l) c.in_ok-image.ensures.bytes c.in_ok-size.ensures.number in
    rw (fault.1, fault.2)
    (fault_tells ch.work g.met.C.Chronicle.lawful c.in_err-chronicle.field-0.0 c.in_ok-size.size
    (d.bytes c.args.disk.now) (d.bytes c.load_all.new.disk)
    (d.faults c.args.disk.now) (d.faults c.load_all.new.disk)
    (breaks_told ch.work c.in_err-chronicle.field-0.0 items (d.bytes c.load_all.new.disk) breaks
    c.in_ok-image.ensures.read)
    (still_then (d.bytes c.args.disk.now) (d.bytes c.settle.new.disk) (d.bytes c.load_all.new.disk)
    c.in_ok-size.ensures.bytes c.in_ok-image.ensures.bytes)
    (λ other. c.in_ok-image.ensures.cause.done ∙ c.in_ok-size.ensures.cause.done) long counted)

pub returns-clause-opened : goal.returns-clause-opened
returns-clause-opened g c = λ all now told later.
    let d = g.D.Disk in
    let ch = g.C.Chronicle in
    let mid : d.bytes c.settle.new.disk ≡ Some now = told_before (d.bytes c.settle.new.disk)
    (d.bytes c.load_all.new.disk) c.in_ok-image.ensures.bytes now later in
    let first : d.bytes c.args.disk.now ≡ Some now = told_before (d.bytes c.args.disk.now)
    (d.bytes c.settle.new.disk) c.in_ok-size.ensures.bytes now mid in
    let synced = c.in_ok-size.ensures.synced now mid in
    let items : List ch.Plain = ch.work.items (ch.state c.in_ok-chronicle.chronicle) in
    let items_are : c.deref.result.now ≡ now = c.deref.ensures.value
    ∙ bytes_told (d.bytes c.load_all.new.disk) now c.in_ok-image.image.items later c.in_ok-image.ensures.read in
    let loaded : IsSynced (d.bytes c.load_all.new.disk) (d.images c.load_all.new.disk) now =
    record {
      told = later;
      only = λ image left. synced.only image (c.in_ok-image.ensures.images image left);
    } in
    subst
    (λ (l : List ℕ). IsOpened ch.work l (d.bytes c.load_all.new.disk) (d.images c.load_all.new.disk)
    c.in_ok-chronicle.end items)
    (same_told (d.bytes c.args.disk.now) all now told first)
    (opened_long ch.work now (d.bytes c.load_all.new.disk) (d.images c.load_all.new.disk) c.in_ok-chronicle.end items
    loaded
    (subst (λ (l : List ℕ). IsReplayed ch.work l c.in_ok-chronicle.end items) items_are
    c.in_ok-chronicle.ensures.replayed))

pub returns-in_err-begin-clause-left : goal.returns-in_err-begin-clause-left
returns-in_err-begin-clause-left g c = λ all now told later.
    let d = g.D.Disk in
    let ch = g.C.Chronicle in
    let mid = was_told (d.bytes c.settle.new.disk) (d.bytes c.begin.new.disk) c.begin.ensures.on now later in
    let first = told_before (d.bytes c.args.disk.now) (d.bytes c.settle.new.disk)
    c.in_ok-size.ensures.bytes mid.0 mid.1 in
    let same : d.bytes c.settle.new.disk ≡ Some all = subst (λ (l : List ℕ). d.bytes c.settle.new.disk ≡ Some l)
    (same_told (d.bytes c.args.disk.now) all mid.0 told first) mid.1 in
    let many : c.in_ok-size.size ≡ length all = number_told
    (d.bytes c.settle.new.disk) all c.in_ok-size.size same c.in_ok-size.ensures.number in
    let short : length all ≤ 1 = omega (arith, many, c.if-size-le1.true) in
    left_begun ch.work d.images d.moment d.left_since c.args.disk.now c.settle.new.disk all
    c.in_ok-size.ensures.moments c.begin.new.disk (c.in_ok-size.ensures.image all told) short
    (c.begin.ensures.moments all short (c.in_ok-size.ensures.synced all same))

pub returns-then-size-le1-clause-left : goal.returns-then-size-le1-clause-left
returns-then-size-le1-clause-left g c = λ all now told later.
    let d = g.D.Disk in
    let ch = g.C.Chronicle in
    let mid = was_told (d.bytes c.settle.new.disk) (d.bytes c.begin.new.disk) c.begin.ensures.on now later in
    let first = told_before (d.bytes c.args.disk.now) (d.bytes c.settle.new.disk)
    c.in_ok-size.ensures.bytes mid.0 mid.1 in
    let same : d.bytes c.settle.new.disk ≡ Some all = subst (λ (l : List ℕ). d.bytes c.settle.new.disk ≡ Some l)
    (same_told (d.bytes c.args.disk.now) all mid.0 told first) mid.1 in
    let many : c.in_ok-size.size ≡ length all = number_told
    (d.bytes c.settle.new.disk) all c.in_ok-size.size same c.in_ok-size.ensures.number in
    let short : length all ≤ 1 = omega (arith, many, c.if-size-le1.true) in
    left_begun ch.work d.images d.moment d.left_since c.args.disk.now c.settle.new.disk all
    c.in_ok-size.ensures.moments c.begin.new.disk (c.in_ok-size.ensures.image all told) short
    (c.begin.ensures.moments all short (c.in_ok-size.ensures.synced all same))

pub returns-then-size-le1-clause-opened : goal.returns-then-size-le1-clause-opened
returns-then-size-le1-clause-opened g c = λ all now told later.
    let d = g.D.Disk in
    let ch = g.C.Chronicle in
    let mid = was_told (d.bytes c.settle.new.disk) (d.bytes c.begin.new.disk) c.begin.ensures.on now later in
    let first = told_before (d.bytes c.args.disk.now) (d.bytes c.settle.new.disk)
    c.in_ok-size.ensures.bytes mid.0 mid.1 in
    let same : d.bytes c.settle.new.disk ≡ Some all = subst (λ (l : List ℕ). d.bytes c.settle.new.disk ≡ Some l)
    (same_told (d.bytes c.args.disk.now) all mid.0 told first) mid.1 in
    let many : c.in_ok-size.size ≡ length all = number_told
    (d.bytes c.settle.new.disk) all c.in_ok-size.size same c.in_ok-size.ensures.number in
    let short : length all ≤ 1 = omega (arith, many, c.if-size-le1.true) in
    rw c.new.ensures
    (opened_short ch.work all (d.bytes c.begin.new.disk) (d.images c.begin.new.disk) short
    (c.in_ok-begin.ensures.kept all short (c.in_ok-size.ensures.synced all same)))

pub returns-clause-left : goal.returns-clause-left
returns-clause-left g c = λ all now told later.
    let d = g.D.Disk in
    let ch = g.C.Chronicle in
    left_read ch.work d.images d.moment d.left_since c.args.disk.now c.settle.new.disk all
    c.in_ok-size.ensures.moments c.load_all.new.disk c.in_ok-size.ensures.images c.load_all.ensures.moments

pub returns-clause-image_read : goal.returns-clause-image_read
returns-clause-image_read g c =
    let ch = g.C.Chronicle in
    let items : List ch.Plain = ch.work.items (ch.state c.in_ok-chronicle.chronicle) in
    replayed_stands ch.work c.in_ok-image.image.items c.in_ok-chronicle.end items
    (subst (λ (l : List ℕ). IsReplayed ch.work l c.in_ok-chronicle.end items) c.deref.ensures.value
    c.in_ok-chronicle.ensures.replayed)
