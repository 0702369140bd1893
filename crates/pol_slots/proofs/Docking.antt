-- What a slot keeps once its module is docked.
use Rattle.std.proofs.Common.{◌≡◌, Option, Some, None, Ok, refl, ◌∙◌, ap}
use Rattle.std.specs.Prelude.{option_and_then, option_map}
use Rattle.mtp_codes.specs.Faults.{done_unless}
use Rattle.mtp_desc.specs.Plain.{PlainDescription}
use Rattle.pol_slots.specs.Reported.{ReportedNothing, ForgetsAll}
use Rattle.pol_slots.specs.Berths.{ticket_in, reported_in, IsBack}
use Rattle.pol_slots.specs.Slots.{slot_tag, slot_description, slot_begins, last_control, last_value, IsDocked}
use Rattle.pol_slots.specs.declared.berth.Berth.{Berth}
use Rattle.pol_slots.specs.declared.berth.Berth.TheVariants.{Docked, Away}
use Rattle.pol_slots.specs.declared.slot.Slot.{Slot}
use Rattle.pol_slots.specs.declared.reported.Reported.{Reported}

-- where the answer is Ok, there is no fault
pub no_fault : {E : Type 0} (fault : Option E) → done_unless fault ≡ Ok tt → fault ≡ None
no_fault None is = refl
no_fault (Some fault) is = cc

-- where the last value of each is none, none is found
nothing_left :
    {A : Type 0} (nothing : Option A) → nothing ≡ None → (found : Option (Option A))
    → option_and_then (λ last. last) (option_map (λ last. nothing) found) ≡ None
nothing_left nothing is None = refl
nothing_left nothing is (Some last) = is

-- where all is forgotten, nothing was reported
forgotten_nothing : (old new : Reported) → ForgetsAll old new → ReportedNothing new
forgotten_nothing old new forgets = record {
  controls = λ name. ap (λ found. option_and_then (λ last. last) found) (forgets.controls name)
      ∙ nothing_left None refl _;
  values = λ name. ap (λ found. option_and_then (λ last. last) found) (forgets.values name) ∙ nothing_left None refl _;
}

-- a berth without a ticket is docked with what was reported
docked_reported : (berth : Berth) → ticket_in berth ≡ None → berth ≡ Docked (reported_in berth)
docked_reported (Docked reported) is = refl
docked_reported (Away kept) is = cc

-- a module that reported nothing is docked
pub docked_fresh :
    (old new : Slot) (described : PlainDescription) (reported : Reported) → new.berth ≡ Docked reported
    → ReportedNothing reported
    → slot_tag new ≡ slot_tag old
    → slot_description new ≡ described → slot_begins new ≡ slot_begins old → IsDocked old new described
unfolding last_control last_value
docked_fresh old new described reported is nothing tag description begins = record {
  tag = tag;
  description = description;
  begins = begins;
  docked = ap ticket_in is;
  unreported = record {
    controls = λ service. rw is (nothing.controls service);
    values =
        λ name. rw is (nothing.values name);
  };
}

-- a module is docked again
pub docked_again :
    (old new : Slot) (described : PlainDescription) (berth : Berth) → IsBack berth new.berth
    → slot_tag new ≡ slot_tag old
    → slot_description new ≡ described → slot_begins new ≡ slot_begins old → IsDocked old new described
docked_again old new described berth back tag description begins =
    docked_fresh old new described (reported_in new.berth) (docked_reported new.berth back.docked)
    (forgotten_nothing (reported_in berth) (reported_in new.berth) back.forgotten) tag description begins
