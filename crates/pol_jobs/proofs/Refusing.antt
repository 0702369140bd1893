-- What was written where a job refused its input, whatever the source told.
use Rattle.std.proofs.Common.{ℕ, ◌≡◌, inl, inr, List, [], ◌∷◌, ◌++◌, Bool, true, refl, sym, ◌∙◌, ap, subst, append_assoc, append-nil}
use Rattle.std.specs.Prelude.{Option, Result, Ok, Err, IsOk, IfErr}
use Rattle.std.specs.Io.KnownBytes.{Appends}
use Rattle.pol_io.proofs.Known.{Appends_none, Appends_trans, Keeps_refl}
use Rattle.pol_io.specs.LinesState.{LinesState}
use Rattle.pol_jobs.specs.Deeds.{RefusesBehind}
use Rattle.pol_jobs.specs.Faults.{JobRefusedSo, RefusedFor, of_stop}
use Rattle.pol_jobs.specs.LineWork.{Line, LineWork, after_each, replies_to}
use Rattle.pol_jobs.specs.Moments.{HasReplied, Met}
use Rattle.pol_jobs.specs.Settling.{Deeds, PutsBefore, PutsDue}
use Rattle.pol_jobs.specs.declared.stop.Stop.{Stop}
use Rattle.pol_jobs.specs.declared.stop.Stop.TheVariants as stop

module _ {State Reason : Type 0} (work : LineWork State Reason) where
  -- what is known after some lines and more of them
  after_each-append : (state : State) (lines more : List Line) →
      after_each work state (lines ++ more) ≡ after_each work (after_each work state lines) more
  after_each-append state [] more = refl
  after_each-append state (line ∷ lines) more = after_each-append (work.after state line) lines more

  -- the replies to them
  replies_to-append : (state : State) (lines more : List Line) →
      replies_to work state (lines ++ more) ≡ replies_to work state lines
      ++ replies_to work (after_each work state lines) more
  replies_to-append state [] more = refl
  replies_to-append state (line ∷ lines) more =
      ap (λ text. work.reply state line ++ text) (replies_to-append (work.after state line) lines more)
      ∙ sym (append_assoc (work.reply state line) (replies_to work (work.after state line) lines)
      (replies_to work (after_each work (work.after state line) lines) more))

  -- nothing was replied to yet
  pub replied_none : (start : State) (held : Option (List ℕ)) (buffer : List ℕ) → buffer ≡ [] →
      HasReplied work start start held held buffer
  replied_none start held buffer empty = record {
    settled = [];
    waiting = [];
    state_is = refl;
    written = Appends_none held held (Keeps_refl held);
    held_back = empty;
  }

  module _ (start before : State) (held between : Option (List ℕ)) (buffer : List ℕ)
      (has : HasReplied work start before held between buffer) where
    -- all replies are those that were written and those that the buffer holds
    all_replied : replies_to work start has.settled ++ buffer ≡ replies_to work start (has.settled ++ has.waiting)
    all_replied =
        ap (λ text. replies_to work start has.settled ++ text) has.held_back
        ∙ sym (replies_to-append start has.settled has.waiting)

    -- what is known is what is known behind those that wait
    known_behind : before ≡ after_each work (after_each work start has.settled) has.waiting
    known_behind = has.state_is ∙ after_each-append start has.settled has.waiting

    -- one line more was replied to
    pub replied_more : {Failure : Type 0} (now : State) (made : Result (Unit {0}) (Stop Reason Failure))
        (more reply : List ℕ) (next : Line) → more ≡ buffer ++ reply → IsOk made →
        Met work before now made reply next → HasReplied work start now held between more
    replied_more now (Err halt) more reply next more_is ok met = cc
    replied_more now (Ok done) more reply next more_is ok met = record {
      settled = has.settled;
      waiting = has.waiting ++ next ∷ [];
      state_is = met.after ∙ (ap (λ (state : State). work.after state next) has.state_is
          ∙ (sym (after_each-append start (has.settled ++ has.waiting) (next ∷ []))
          ∙ ap (after_each work start) (append_assoc has.settled has.waiting (next ∷ []))));
      written = has.written;
      held_back = more_is ∙ (ap (λ text. buffer ++ text) met.said
          ∙ (ap (λ text. text ++ work.reply before next) has.held_back
          ∙ (ap (λ text. replies_to work (after_each work start has.settled) has.waiting ++ text)
          (ap (λ (state : State). work.reply state next) known_behind
          ∙ sym (append-nil (work.reply (after_each work (after_each work start has.settled) has.waiting) next)))
          ∙ sym (replies_to-append (after_each work start has.settled) has.waiting (next ∷ [])))));
    }

    -- the replies that waited were written
    pub replied_put : (now : State) (held' : Option (List ℕ)) → now ≡ before → Appends between held' buffer →
        HasReplied work start now held held' []
    replied_put now held' kept appended = record {
      settled = has.settled ++ has.waiting;
      waiting = [];
      state_is = kept ∙ (has.state_is ∙ ap (after_each work start) (sym (append-nil (has.settled ++ has.waiting))));
      written = subst (Appends held held') all_replied
          (Appends_trans held between held' (replies_to work start has.settled) buffer has.written appended);
      held_back = refl;
    }

    -- the same, where it was time
    pub replied_due : {Job : Type 0} (Did : Deeds Job) (each : Bool) (lines : LinesState) (job job' : Job) (now : State)
        (held' : Option (List ℕ)) (buffer' : List ℕ) → now ≡ before →
        PutsDue Did each lines job job' between held' buffer buffer' → HasReplied work start now held held' buffer'
    unfolding replied_put
    replied_due Did each lines job job' now held' buffer' kept (inl off) = rw (off.sink, off.waits, kept) has
    replied_due Did each lines job job' now held' buffer' kept (inr put) =
        rw put.1 (replied_put now held' kept put.0.written)

    -- and where a line stopped the job
    written_before : {Job : Type 0} (Did : Deeds Job) (each : Bool) (job job' : Job) (held' : Option (List ℕ)) →
        (each ≡ true → buffer ≡ []) → PutsBefore Did each job job' between held' buffer →
        Appends held held' (replies_to work start (has.settled ++ has.waiting))
    written_before Did each job job' held' none (inl idle) =
        rw idle.2 (subst (Appends held between)
        (sym (append-nil (replies_to work start has.settled))
        ∙ (ap (λ text. replies_to work start has.settled ++ text) (sym (none idle.0)) ∙ all_replied)) has.written)
    written_before Did each job job' held' none (inr put) =
        subst (Appends held held') all_replied
        (Appends_trans held between held' (replies_to work start has.settled) buffer has.written put.1.written)

    -- where that refused its input, these were all that was written
    pub stop_refused : {Job Failure : Type 0} (Did : Deeds Job) (each : Bool) (job job' : Job)
        (halt : Stop Reason Failure) (now : State) (held' : Option (List ℕ))
        (made : Result (Unit {0}) (Stop Reason Failure)) (reply : List ℕ) (next : Line) → made ≡ Err halt →
        Met work before now made reply next → (each ≡ true → buffer ≡ []) →
        PutsBefore Did each job job' between held' buffer →
        JobRefusedSo (RefusesBehind work start held held') (of_stop halt)
    stop_refused Did each job job' stop.Memory now held' made reply next is met none puts = tt
    stop_refused Did each job job' (stop.Failed failure) now held' made reply next is met none puts = tt
    stop_refused Did each job job' (stop.Refused reason) now held' made reply next is met none puts =
        let refused = subst (λ made. IfErr made (RefusedFor (work.Refuses before next))) is met.refused in
        record {
          lines = has.settled ++ has.waiting;
          refuses = inl (next, subst (λ (state : State). work.Refuses state next reason) has.state_is refused);
          written = written_before Did each job job' held' none puts;
        }

  -- the same at the end of the input
  pub end_refused : {Failure : Type 0} (halt : Stop Reason Failure) (start now : State) (held held' : Option (List ℕ)) →
      HasReplied work start now held held' [] → RefusedFor (work.RefusesEnd now) halt →
      JobRefusedSo (RefusesBehind work start held held') (of_stop halt)
  end_refused stop.Memory start now held held' has refuses = tt
  end_refused (stop.Failed failure) start now held held' has refuses = tt
  end_refused (stop.Refused reason) start now held held' has refuses = record {
    lines = has.settled ++ has.waiting;
    refuses = inr (subst (λ (state : State). work.RefusesEnd state reason) has.state_is refuses);
    written = subst (Appends held held')
        (sym (append-nil (replies_to work start has.settled)) ∙ all_replied start now held held' [] has) has.written;
  }
