-- What a write, made or tried, tells of the file.
use Rattle.std.proofs.Common.{◌≡◌, List, ◌∷◌, length, refl, sym, ◌∙◌, ap, subst}
use Rattle.pol_disk.specs.Answers.{FileCall, GivesImage, GoesOn, MayLeave, Told, learnt, told_after, tried, written}
use Rattle.pol_disk.specs.Disks.{Follows, Torn}
use Rattle.pol_disk.proofs.Learning.{left_tried_now, left_written_now, tried_comes, tried_elapses, written_comes, written_elapses}
use Rattle.pol_file.specs.Notes.{FileState}
use Rattle.pol_file.proofs.file.FileDisk.try_write.Goals as goal

-- P of what is told with one call more, where the state before is the one at the start
by_call : (P : Told → Type 0) (call : FileCall) (first : Told) (calls calls' : List FileCall)
    (view mid old : FileState) → calls' ≡ call ∷ calls → view ≡ mid → mid ≡ old →
    told_after first calls ≡ view.told → GivesImage mid.told
    → (GivesImage old.told → P (learnt call old.told)) → P (told_after first calls')
by_call P call first calls calls' view mid old more is_mid is_old is_told image holds =
    subst P (sym (ap (λ (l : List FileCall). told_after first l) more
    ∙ ap (learnt call) (is_told ∙ ap (λ (state : FileState). state.told) (is_mid ∙ is_old))))
    (holds (subst (λ (state : FileState). GivesImage state.told) is_old image))

pub invariant_of-self : goal.invariant_of-self
invariant_of-self g c =
    by_call (GivesImage) (written c.args.at c.args.piece.now) _ c.self.inside.log.calls c.note.new.self.calls _
    c.write_there.new.self c.args.self.now c.note.ensures c.self.view_is c.write_there.ensures.same refl
    c.write_there.ensures.image (left_written_now c.args.at c.args.piece.now c.args.self.now.told c.requires)

pub invariant_of-self-in-Err : goal.invariant_of-self-in-Err
invariant_of-self-in-Err g c =
    by_call (GivesImage) (tried c.args.at c.args.piece.now) _ c.self.inside.log.calls c.note-in-Err.new.self.calls _
    c.write_there.new.self c.args.self.now c.note-in-Err.ensures c.self.view_is c.write_there.ensures.same refl
    c.write_there.ensures.image (left_tried_now c.args.at c.args.piece.now c.args.self.now.told c.requires)

pub returns-in-Ok-clause-image : goal.returns-in-Ok-clause-image
returns-in-Ok-clause-image g c = invariant_of-self g c

pub returns-in-Ok-clause-images : goal.returns-in-Ok-clause-images
returns-in-Ok-clause-images g c =
    by_call (λ new. Follows (Torn c.args.at (length c.args.piece.now)) (MayLeave c.args.self.now.told) (MayLeave new))
    (written c.args.at c.args.piece.now) _ c.self.inside.log.calls c.note.new.self.calls _
    c.write_there.new.self c.args.self.now c.note.ensures c.self.view_is c.write_there.ensures.same refl
    c.write_there.ensures.image (written_comes c.args.at c.args.piece.now c.args.self.now.told c.requires)

pub returns-in-Ok-clause-time : goal.returns-in-Ok-clause-time
returns-in-Ok-clause-time g c =
    by_call (GoesOn c.args.self.now.told)
    (written c.args.at c.args.piece.now) _ c.self.inside.log.calls c.note.new.self.calls _
    c.write_there.new.self c.args.self.now c.note.ensures c.self.view_is c.write_there.ensures.same refl
    c.write_there.ensures.image (written_elapses c.args.at c.args.piece.now c.args.self.now.told c.requires)

pub returns-in-Err-clause-image : goal.returns-in-Err-clause-image
returns-in-Err-clause-image g c = invariant_of-self-in-Err g c

pub returns-in-Err-clause-images : goal.returns-in-Err-clause-images
returns-in-Err-clause-images g c =
    by_call (λ new. Follows (Torn c.args.at (length c.args.piece.now)) (MayLeave c.args.self.now.told) (MayLeave new))
    (tried c.args.at c.args.piece.now) _ c.self.inside.log.calls c.note-in-Err.new.self.calls _
    c.write_there.new.self c.args.self.now c.note-in-Err.ensures c.self.view_is c.write_there.ensures.same refl
    c.write_there.ensures.image (tried_comes c.args.at c.args.piece.now c.args.self.now.told c.requires)

pub returns-in-Err-clause-time : goal.returns-in-Err-clause-time
returns-in-Err-clause-time g c =
    by_call (GoesOn c.args.self.now.told)
    (tried c.args.at c.args.piece.now) _ c.self.inside.log.calls c.note-in-Err.new.self.calls _
    c.write_there.new.self c.args.self.now c.note-in-Err.ensures c.self.view_is c.write_there.ensures.same refl
    c.write_there.ensures.image (tried_elapses c.args.at c.args.piece.now c.args.self.now.told c.requires)
