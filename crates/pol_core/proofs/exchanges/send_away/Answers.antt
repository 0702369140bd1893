-- A module goes away under the next ticket.
use Rattle.std.proofs.Common.{◌≡◌, ◌∙◌, sym, ap, subst, refl, None}
use Rattle.std.specs.Option.{option_copied_mut}
use Rattle.std.proofs.lemmas.Option.{same_Some}
use Rattle.pol_slots.specs.Slots.{slot_ticket}
use Rattle.pol_slots.specs.declared.slot.Slot.{Slot}
use Rattle.pol_core.specs.Exchanges.{GoesAway}
use Rattle.pol_core.proofs.exchanges.send_away.Goals as goal

pub begin-requires : goal.begin-requires
begin-requires c =
    let at = c.requires.docked in
    let is : c.in-Some.slot.now ≡ at.slot = same_Some c.in-Some.slot.now at.slot
    (sym (ap option_copied_mut c.in-Some.is) ∙ c.get_mut.ensures.value ∙ at.found) in
    record {
      docked = subst (λ (slot : Slot). slot_ticket slot ≡ None) (sym is) at.docked;
      few = c.requires.few c.args.tag c.in-Some.slot.now (sym c.get_mut.ensures.value
          ∙ ap option_copied_mut c.in-Some.is);
    }

pub returns : goal.returns
returns c =
    λ slot found.
    let is : c.in-Some.slot.now ≡ slot = same_Some c.in-Some.slot.now slot (sym (ap option_copied_mut c.in-Some.is)
    ∙ c.get_mut.ensures.value ∙ found) in
    record {
      after = c.begin.new.self;
      goes = subst (λ (slot : Slot). GoesAway c.begin.result slot c.begin.new.self) is
          (record {
            answer = c.begin.ensures.answer;
            begins = c.begin.ensures.begins;
            away = c.begin.ensures.away;
            tag = c.begin.ensures.tag;
            description = c.begin.ensures.description;
            unreported = c.begin.ensures.unreported;
          });
      table = refl;
    }
