-- What else a job did, line after line.
use Rattle.std.proofs.Common.{ℕ, ◌≡◌, inl, inr, List, [], ◌∷◌, ◌++◌, Bool, true, false, map, refl, sym, ◌∙◌, ap, subst, append_assoc, append-nil}
use Rattle.std.specs.Prelude.{IsTrue, Option, Some, None, Result, Ok, Err, IsOk, IfSome}
use Rattle.std.specs.Result.{is_ok}
use Rattle.std.proofs.lemmas.List.{map-append}
use Rattle.pol_io.specs.Known.{Between, joined}
use Rattle.pol_io.specs.LinesState.{LinesState, ahead, needs_no_source}
use Rattle.pol_io.specs.Pieces.{pieces, line_of, IsFirstLine}
use Rattle.pol_io.proofs.FirstLines.{done_all, done_none}
use Rattle.pol_io.proofs.Known.{Appends_none, Keeps_refl, between_trans, between_weaker}
use Rattle.pol_jobs.specs.Deeds.{DidAll, DidSome, MetFirst}
use Rattle.pol_jobs.specs.LineWork.{LineWork, Line, line_met, met, replies}
use Rattle.pol_jobs.specs.Moments.{moment, HasServed, IsFresh, IsNext, IsServed, Moment, Moves, Replies, Served, ServedLines}
use Rattle.pol_jobs.specs.Settling.{Deeds, Puts, PutsBefore, PutsDue, PutsPart, Settles}
use Rattle.pol_jobs.specs.Written.{WritesSome}
use Rattle.pol_jobs.specs.declared.stop.Stop.{Stop}
use Rattle.pol_jobs.proofs.Serving.{all_replies, served_end, served_next, served_put}
use Rattle.pol_jobs.proofs.Written.{all_written, nothing_written, some_behind}

-- what is known of bytes before and of those after, comes to what is known of those before
before_both : (P : List ℕ → List ℕ → Type 0) (Q : List ℕ → Type 0) (begin now : Option (List ℕ)) →
    ((bytes rest : List ℕ) → P bytes rest → Q bytes) → Between P begin now → IfSome begin Q
before_both P Q None now weaker known = tt
before_both P Q (Some bytes) None weaker known = absurd known
before_both P Q (Some bytes) (Some rest) weaker known = weaker bytes rest known

-- the same over two calls
before_two : (P Q : List ℕ → List ℕ → Type 0) (R : List ℕ → Type 0) (begin now last : Option (List ℕ)) →
    ((bytes text rest : List ℕ) → P bytes text → Q text rest → R bytes) → Between P begin now → Between Q now last →
    IfSome begin R
before_two P Q R None now last weaker one two = tt
before_two P Q R (Some bytes) None last weaker one two = absurd one
before_two P Q R (Some bytes) (Some text) None weaker one two = absurd two
before_two P Q R (Some bytes) (Some text) (Some rest) weaker one two = weaker bytes text rest one two

-- a reply that was made is one
made_ok : {E : Type 0} (made : Result (Unit {0}) E) → IsOk made → is_ok made ≡ true
made_ok (Ok done) ok = refl
made_ok (Err error) ok = cc

-- the line of a piece
line_is_met : (next : Line) (piece line : List ℕ) → next ≡ met line → line ≡ line_of piece → next ≡ line_met piece
line_is_met next piece line next_is line_is = next_is ∙ ap met line_is

-- one line more
lines_next : (lines : List Line) (next : Line) (before : List (List ℕ)) (piece : List ℕ) →
    lines ≡ map line_met before → next ≡ line_met piece →
    lines ++ next ∷ [] ≡ map line_met (before ++ piece ∷ [])
lines_next lines next before piece lines_are next_is =
    ap (λ lines. lines ++ next ∷ []) lines_are
    ∙ ap (λ next. map line_met before ++ next ∷ []) next_is
    ∙ sym (map-append line_met before (piece ∷ []))

-- some lines and others behind them
lines_both : (lines more : List Line) (before later : List (List ℕ)) → lines ≡ map line_met before →
    more ≡ map line_met later → lines ++ more ≡ map line_met (before ++ later)
lines_both lines more before later lines_are more_are =
    ap (λ lines. lines ++ more) lines_are ∙ ap (λ more. map line_met before ++ more) more_are
    ∙ sym (map-append line_met before later)

module _ {State Reason : Type 0} (work : LineWork State Reason) where
  -- nothing was replied to yet
  pub served_none : (Did : List Line → List Line → Bool → Type 0) (first : Moment State) (held : Option (List ℕ)) →
      Did [] [] true → IsFresh first.lines → HasServed work Did first first held held []
  served_none Did first held nothing fresh = record {
    settled = [];
    waiting = [];
    did = nothing;
    served = none first.left first.lines.waiting first.lines.ended fresh.waiting fresh.unended;
  }
    where
      none : (begin : Option (List ℕ)) (waiting : List ℕ) (ended : Bool) → waiting ≡ [] → ended ≡ false →
          Between (ServedLines work [] [] first first held held []) begin (joined ended waiting begin)
      none None waiting ended empty unended = tt
      none (Some bytes) waiting ended empty unended = rw (empty, unended) (record {
        served = record {
          done = [];
          settled = [];
          waiting = [];
          are = refl;
          so_far = done_none first.lines.ended bytes fresh.unended;
          state_is = refl;
          written = Appends_none held held (Keeps_refl held);
          held_back = refl;
          accepted = tt;
        };
        settled_are = refl;
        waiting_are = refl;
      })

  -- they were replied to
  pub are_served : (Did : List Line → List Line → Bool → Type 0) (first now : Moment State)
      (held held' : Option (List ℕ)) (buffer : List ℕ) → HasServed work Did first now held held' buffer →
      IsServed work first now held held' buffer
  are_served Did first now held held' buffer has =
      between_weaker (ServedLines work has.settled has.waiting first now held held' buffer)
      (Served work first now held held' buffer) first.left (ahead now.lines now.left)
      (λ bytes rest lines. lines.served) has.served

  -- ---- the first lines of some bytes

  module _ (first now : Moment State) (held between : Option (List ℕ)) (buffer bytes text : List ℕ)
      (settled waiting : List Line) (so_far : ServedLines work settled waiting first now held between buffer bytes text)
    where
      -- the pieces of the bytes
      are_parted : pieces bytes ≡ so_far.served.settled ++ (so_far.served.waiting ++ pieces text)
      are_parted = so_far.served.so_far.pieces_are ∙ (ap (λ parts. parts ++ pieces text) so_far.served.are
          ∙ append_assoc so_far.served.settled so_far.served.waiting (pieces text))

      -- those that are settled, and those that wait
      met_so_far : MetFirst work first.state settled waiting held between bytes
      met_so_far = record {
        first = so_far.served.settled;
        later = so_far.served.waiting;
        others = pieces text;
        are = are_parted;
        settled_are = so_far.settled_are;
        waiting_are = so_far.waiting_are;
        written = inr (all_written held between (replies work first.state so_far.served.settled)
            so_far.served.written);
      }

      -- and one more line
      met_next : (ended : Bool) (line rest : List ℕ) (next : Line) → IsFirstLine ended line text rest →
          next ≡ met line → MetFirst work first.state settled (waiting ++ next ∷ []) held between bytes
      met_next ended line rest next cut next_is = record {
        first = so_far.served.settled;
        later = so_far.served.waiting ++ cut.piece ∷ [];
        others = pieces rest;
        are = are_parted ∙ ap (λ parts. so_far.served.settled ++ parts)
            (ap (λ parts. so_far.served.waiting ++ parts) cut.pieces_are
            ∙ sym (append_assoc so_far.served.waiting (cut.piece ∷ []) (pieces rest)));
        settled_are = so_far.settled_are;
        waiting_are = lines_next waiting next so_far.served.waiting cut.piece so_far.waiting_are
            (line_is_met next cut.piece line next_is cut.line_is);
        written = inr (all_written held between (replies work first.state so_far.served.settled)
            so_far.served.written);
      }

      -- a front part of all these replies was written
      some_settled : (held' : Option (List ℕ)) → WritesSome between held' buffer →
          WritesSome held held' (replies work first.state (so_far.served.settled ++ so_far.served.waiting))
      some_settled held' some =
          some_behind held between held' (replies work first.state so_far.served.settled) buffer
          (replies work first.state (so_far.served.settled ++ so_far.served.waiting)) so_far.served.written some
          (all_replies work first so_far.served.settled so_far.served.waiting so_far.served.done buffer
          so_far.served.are so_far.served.held_back ∙ ap (replies work first.state) so_far.served.are)

      -- all were settled
      met_settled : (held' : Option (List ℕ)) → WritesSome between held' buffer →
          MetFirst work first.state (settled ++ waiting) [] held held' bytes
      met_settled held' some = record {
        first = so_far.served.settled ++ so_far.served.waiting;
        later = [];
        others = pieces text;
        are = are_parted ∙ sym (append_assoc so_far.served.settled so_far.served.waiting (pieces text));
        settled_are = lines_both settled waiting so_far.served.settled so_far.served.waiting so_far.settled_are
            so_far.waiting_are;
        waiting_are = refl;
        written = inr (some_settled held' some);
      }

      -- and one more line was met
      met_settled_next : (ended : Bool) (line rest : List ℕ) (next : Line) (held' : Option (List ℕ)) →
          IsFirstLine ended line text rest → next ≡ met line → WritesSome between held' buffer →
          MetFirst work first.state (settled ++ waiting) (next ∷ []) held held' bytes
      met_settled_next ended line rest next held' cut next_is some = record {
        first = so_far.served.settled ++ so_far.served.waiting;
        later = cut.piece ∷ [];
        others = pieces rest;
        are = are_parted ∙ (ap (λ parts. so_far.served.settled ++ (so_far.served.waiting ++ parts)) cut.pieces_are
            ∙ sym (append_assoc so_far.served.settled so_far.served.waiting (cut.piece ∷ pieces rest)));
        settled_are = lines_both settled waiting so_far.served.settled so_far.served.waiting so_far.settled_are
            so_far.waiting_are;
        waiting_are = ap (λ next. next ∷ []) (line_is_met next cut.piece line next_is cut.line_is);
        written = inr (some_settled held' some);
      }

      -- where no more follow, they are all lines
      all_lines : text ≡ [] → settled ++ waiting ≡ map line_met (pieces bytes)
      all_lines none =
          lines_both settled waiting so_far.served.settled so_far.served.waiting so_far.settled_are so_far.waiting_are
          ∙ ap (map line_met) (sym so_far.served.are
          ∙ ap pieces (done_all now.lines.ended bytes so_far.served.done text so_far.served.so_far none))

module _ {State Reason Job : Type 0} (work : LineWork State Reason) (Did : Deeds Job) (start : Job)
    (first : Moment State) where
  -- ---- lines that were replied to

  -- where the next line is replied to as it should be, it is one more of those that wait
  line_served : (Failure : Type 0) (now next : Moment State) (held held' : Option (List ℕ))
      (buffer bytes text rest reply : List ℕ)
      (settled waiting : List Line) (one : Line) →
      ServedLines work settled waiting first now held held' buffer bytes text →
      Replies {Failure = Failure} work now.state next.state next.lines.ended (Some (Ok tt)) reply one text rest →
      ServedLines work settled (waiting ++ one ∷ []) first next held held' (buffer ++ reply) bytes rest
  unfolding served_next
  line_served Failure now next held held' buffer bytes text rest reply settled waiting one so_far replied =
      subst (λ reply. ServedLines work settled (waiting ++ one ∷ []) first next held held' (buffer ++ reply) bytes rest)
      (sym replied.2.said) (record {
        served = served_next work first now next held held' buffer bytes text rest replied.0 so_far.served replied.1
            replied.2.after replied.2.accepted;
        settled_are = so_far.settled_are;
        waiting_are = lines_next waiting one so_far.served.waiting replied.1.piece so_far.waiting_are
            (line_is_met one replied.1.piece replied.0 replied.3 replied.1.line_is);
      })

  -- the same, where the source tells its bytes
  pub served_on : {Failure : Type 0} (job job' : Job) (now next : Moment State) (held held' : Option (List ℕ))
      (buffer more : List ℕ)
      (made : Result (Unit {0}) (Stop Reason Failure)) (reply : List ℕ) → more ≡ buffer ++ reply → IsOk made →
      HasServed work (Did start job) first now held held' buffer →
      IsNext work Did job job' now next (Some made) reply →
      HasServed work (Did start job') first next held held' more
  served_on {Failure = Failure} job job' now next held held' buffer more made reply more_is ok has is_next =
      rw more_is (record {
        settled = has.settled;
        waiting = has.waiting ++ is_next.next ∷ [];
        did = subst (Did start job' has.settled (has.waiting ++ is_next.next ∷ [])) (made_ok made ok)
            (is_next.did start has.settled has.waiting has.did);
        served = known_bytes first.left (ahead now.lines now.left) (ahead next.lines next.left) made has.served
            is_next.replies ok;
      })
    where
      known_bytes : (begin text rest : Option (List ℕ)) (made : Result (Unit {0}) (Stop Reason Failure)) →
          Between (ServedLines work has.settled has.waiting first now held held' buffer) begin text →
          Between (Replies work now.state next.state next.lines.ended (Some made) reply is_next.next) text rest →
          IsOk made →
          Between (ServedLines work has.settled (has.waiting ++ is_next.next ∷ []) first next held held'
          (buffer ++ reply)) begin rest
      known_bytes None text rest made so_far replied ok = tt
      known_bytes (Some bytes) None rest made so_far replied ok = absurd so_far
      known_bytes (Some bytes) (Some text) None made so_far replied ok = absurd replied
      known_bytes (Some bytes) (Some text) (Some rest) (Err error) so_far replied ok = cc
      known_bytes (Some bytes) (Some text) (Some rest) (Ok done) so_far replied ok =
          line_served Failure now next held held' buffer bytes text rest reply has.settled has.waiting is_next.next
          so_far replied

  -- the end was seen behind them
  pub served_last : {Failure : Type 0} (job job' : Job) (now last : Moment State) (held held' : Option (List ℕ))
      (buffer reply : List ℕ) →
      HasServed work (Did start job) first now held held' buffer →
      IsNext {Failure = Failure} work Did job job' now last None reply →
      HasServed work (Did start job') first last held held' buffer
  unfolding served_end
  served_last job job' now last held held' buffer reply has is_next = record {
    settled = has.settled;
    waiting = has.waiting;
    did = subst (λ job. Did start job has.settled has.waiting true) (sym is_next.did) has.did;
    served = between_trans (ServedLines work has.settled has.waiting first now held held' buffer)
        (λ text rest. (text ≡ []) × (rest ≡ []) × (last.state ≡ now.state))
        (ServedLines work has.settled has.waiting first last held held' buffer) first.left (ahead now.lines now.left)
        (ahead last.lines last.left)
        (λ bytes text rest so_far none. subst
        (ServedLines work has.settled has.waiting first last held held' buffer bytes) (sym none.1) (record {
          served = served_end work first now last held held' buffer bytes text so_far.served none.0 is_next.ended
              none.2;
          settled_are = so_far.settled_are;
          waiting_are = so_far.waiting_are;
        })) has.served is_next.replies;
  }

  -- those that waited were settled, and the replies to them written
  pub served_settled : (each : Bool) (job job' : Job) (now : Moment State) (state : State)
      (held between held' : Option (List ℕ)) (buffer : List ℕ) →
      HasServed work (Did start job) first now held between buffer → state ≡ now.state →
      Puts Did each job job' between held' buffer →
      HasServed work (Did start job') first (moment state now.lines now.left) held held' []
  unfolding served_put
  served_settled each job job' now state held between held' buffer has kept puts = record {
    settled = has.settled ++ has.waiting;
    waiting = [];
    did = puts.settles.all start has.settled has.waiting has.did;
    served = between_weaker (ServedLines work has.settled has.waiting first now held between buffer)
        (ServedLines work (has.settled ++ has.waiting) [] first (moment state now.lines now.left) held held' [])
        first.left (ahead now.lines now.left)
        (λ bytes text so_far. record {
          served = served_put work first now state held between held' buffer bytes text so_far.served kept
              puts.written;
          settled_are = lines_both has.settled has.waiting so_far.served.settled so_far.served.waiting
              so_far.settled_are so_far.waiting_are ∙ ap (map line_met) (sym so_far.served.are);
          waiting_are = refl;
        }) has.served;
  }

  -- the same, where it was time
  pub served_due : (each : Bool) (lines : LinesState) (job job' : Job) (now : Moment State) (state : State)
      (held between held' : Option (List ℕ)) (buffer buffer' : List ℕ) →
      HasServed work (Did start job) first now held between buffer → state ≡ now.state →
      PutsDue Did each lines job job' between held' buffer buffer' →
      HasServed work (Did start job') first (moment state now.lines now.left) held held' buffer'
  served_due each lines job job' now state held between held' buffer buffer' has kept (inl off) =
      rw (off.job, off.sink, off.waits, kept) has
  served_due each lines job job' now state held between held' buffer buffer' has kept (inr put) =
      rw put.1 (served_settled each job job' now state held between held' buffer has kept put.0)

  -- all lines were settled
  pub did_all : (each : Bool) (job job' : Job) (last : Moment State) (held held' : Option (List ℕ))
      (buffer : List ℕ) → HasServed work (Did start job) first last held held' buffer → Moves first last →
      IsTrue last.lines.ended → Settles Did each job job' → DidAll (Did start job') first.left
  did_all each job job' last held held' buffer has moves ended settles = record {
    settled = has.settled ++ has.waiting;
    did = settles.all start has.settled has.waiting has.did;
    all = before_both (ServedLines work has.settled has.waiting first last held held' buffer)
        (λ bytes. has.settled ++ has.waiting ≡ map line_met (pieces bytes)) first.left (ahead last.lines last.left)
        (λ bytes rest so_far. all_lines work first last held held' buffer bytes rest has.settled has.waiting so_far
        (so_far.served.so_far.spent ended)) has.served;
  }

  -- ---- where a job may stop

  -- the next line couldn't be read
  pub did_before : (job job' : Job) (now : Moment State) (held held' : Option (List ℕ)) (buffer : List ℕ) →
      HasServed work (Did start job) first now held held' buffer → job' ≡ job →
      DidSome work first.state (Did start job') held held' first.left
  did_before job job' now held held' buffer has same = record {
    settled = has.settled;
    waiting = has.waiting;
    whole = true;
    did = subst (λ job. Did start job has.settled has.waiting true) (sym same) has.did;
    first = before_both (ServedLines work has.settled has.waiting first now held held' buffer)
        (MetFirst work first.state has.settled has.waiting held held') first.left (ahead now.lines now.left)
        (λ bytes text so_far.
        met_so_far work first now held held' buffer bytes text has.settled has.waiting so_far) has.served;
  }

  -- the next line was met, and no more
  did_met : {Failure : Type 0} (job job' last : Job) (now next : Moment State) (held held' : Option (List ℕ))
      (buffer : List ℕ)
      (made : Result (Unit {0}) (Stop Reason Failure)) (out : List ℕ) (whole : Bool) →
      (has : HasServed work (Did start job) first now held held' buffer) →
      (is_next : IsNext work Did job job' now next (Some made) out) →
      Did start last has.settled (has.waiting ++ is_next.next ∷ []) whole →
      DidSome work first.state (Did start last) held held' first.left
  did_met job job' last now next held held' buffer made out whole has is_next did = record {
    settled = has.settled;
    waiting = has.waiting ++ is_next.next ∷ [];
    whole = whole;
    did = did;
    first = before_two (ServedLines work has.settled has.waiting first now held held' buffer)
        (Replies work now.state next.state next.lines.ended (Some made) out is_next.next)
        (MetFirst work first.state has.settled (has.waiting ++ is_next.next ∷ []) held held') first.left
        (ahead now.lines now.left) (ahead next.lines next.left)
        (λ bytes text rest so_far replied. met_next work first now held held' buffer bytes text has.settled has.waiting
        so_far next.lines.ended replied.0 rest is_next.next replied.1 replied.3) has.served is_next.replies;
  }

  -- there was no memory to hold the reply to it
  pub did_unheld : {Failure : Type 0} (job job' : Job) (now next : Moment State) (held held' : Option (List ℕ))
      (buffer : List ℕ)
      (made : Result (Unit {0}) (Stop Reason Failure)) (out : List ℕ) →
      HasServed work (Did start job) first now held held' buffer →
      IsNext work Did job job' now next (Some made) out →
      DidSome work first.state (Did start job') held held' first.left
  did_unheld job job' now next held held' buffer made out has is_next =
      did_met job job' job' now next held held' buffer made out (is_ok made) has is_next
      (is_next.did start has.settled has.waiting has.did)

  -- the lines before it were settled, and the job had stopped there
  did_stopped : {Failure : Type 0} (job job' last : Job) (now next : Moment State)
      (held between held' : Option (List ℕ))
      (buffer : List ℕ) (made : Result (Unit {0}) (Stop Reason Failure)) (out : List ℕ) →
      (has : HasServed work (Did start job) first now held between buffer) →
      (is_next : IsNext work Did job job' now next (Some made) out) →
      Did start last (has.settled ++ has.waiting) (is_next.next ∷ []) false → WritesSome between held' buffer →
      DidSome work first.state (Did start last) held held' first.left
  did_stopped job job' last now next held between held' buffer made out has is_next did some = record {
    settled = has.settled ++ has.waiting;
    waiting = is_next.next ∷ [];
    whole = false;
    did = did;
    first = before_two (ServedLines work has.settled has.waiting first now held between buffer)
        (Replies work now.state next.state next.lines.ended (Some made) out is_next.next)
        (MetFirst work first.state (has.settled ++ has.waiting) (is_next.next ∷ []) held held') first.left
        (ahead now.lines now.left) (ahead next.lines next.left)
        (λ bytes text rest so_far replied. met_settled_next work first now held between buffer bytes text has.settled
        has.waiting so_far next.lines.ended replied.0 rest is_next.next held' replied.1 replied.3 some) has.served
        is_next.replies;
  }

  -- the job stopped at the next line
  stops_at : {Failure : Type 0} (halt : Stop Reason Failure) (job job' : Job) (now next : Moment State)
      (held between : Option (List ℕ))
      (buffer : List ℕ) (made : Result (Unit {0}) (Stop Reason Failure)) (out : List ℕ) → made ≡ Err halt →
      (has : HasServed work (Did start job) first now held between buffer) →
      (is_next : IsNext work Did job job' now next (Some made) out) →
      Did start job' has.settled (has.waiting ++ is_next.next ∷ []) false
  stops_at halt job job' now next held between buffer made out is has is_next =
      subst (Did start job' has.settled (has.waiting ++ is_next.next ∷ [])) (ap is_ok is)
      (is_next.did start has.settled has.waiting has.did)

  -- and the replies to those before it were put out
  pub did_stop : {Failure : Type 0} (each : Bool) (halt : Stop Reason Failure) (job job' last : Job)
      (now next : Moment State)
      (held between held' : Option (List ℕ)) (buffer : List ℕ) (made : Result (Unit {0}) (Stop Reason Failure))
      (out : List ℕ) → made ≡ Err halt → HasServed work (Did start job) first now held between buffer →
      IsNext work Did job job' now next (Some made) out → PutsBefore Did each job' last between held' buffer →
      DidSome work first.state (Did start last) held held' first.left
  did_stop each halt job job' last now next held between held' buffer made out is has is_next (inl idle) =
      rw (idle.1, idle.2) (did_met job job' job' now next held between buffer made out false has is_next
      (stops_at halt job job' now next held between buffer made out is has is_next))
  did_stop each halt job job' last now next held between held' buffer made out is has is_next (inr puts) =
      did_stopped job job' last now next held between held' buffer made out has is_next
      (puts.1.settles.stopped puts.0 start has.settled has.waiting is_next.next
      (stops_at halt job job' now next held between buffer made out is has is_next))
      (all_written between held' buffer puts.1.written)

  -- or not all of them
  pub did_stop_part : {Failure : Type 0} (each : Bool) (halt : Stop Reason Failure) (job job' last : Job)
      (now next : Moment State)
      (held between held' : Option (List ℕ)) (buffer : List ℕ) (made : Result (Unit {0}) (Stop Reason Failure))
      (out : List ℕ) → made ≡ Err halt → HasServed work (Did start job) first now held between buffer →
      IsNext work Did job job' now next (Some made) out → each ≡ false →
      PutsPart Did each job' last between held' buffer →
      DidSome work first.state (Did start last) held held' first.left
  did_stop_part each halt job job' last now next held between held' buffer made out is has is_next grouped (inl puts) =
      did_stopped job job' last now next held between held' buffer made out has is_next
      (puts.0.stopped grouped start has.settled has.waiting is_next.next
      (stops_at halt job job' now next held between buffer made out is has is_next)) puts.1
  did_stop_part each halt job job' last now next held between held' buffer made out is has is_next grouped (inr none) =
      rw none.1 (did_met job job' last now next held between buffer made out false has is_next
      (none.0.stopped grouped start has.settled has.waiting is_next.next
      (stops_at halt job job' now next held between buffer made out is has is_next)))

  -- the replies that waited weren't written whole
  pub did_part : (each : Bool) (job job' : Job) (now : Moment State) (held between held' : Option (List ℕ))
      (buffer : List ℕ) → HasServed work (Did start job) first now held between buffer →
      PutsPart Did each job job' between held' buffer →
      DidSome work first.state (Did start job') held held' first.left
  did_part each job job' now held between held' buffer has (inl puts) = record {
    settled = has.settled ++ has.waiting;
    waiting = [];
    whole = true;
    did = puts.0.all start has.settled has.waiting has.did;
    first = before_both (ServedLines work has.settled has.waiting first now held between buffer)
        (MetFirst work first.state (has.settled ++ has.waiting) [] held held') first.left (ahead now.lines now.left)
        (λ bytes text so_far. met_settled work first now held between buffer bytes text has.settled has.waiting so_far
        held' puts.1) has.served;
  }
  did_part each job job' now held between held' buffer has (inr none) = rw none.1 (record {
    settled = has.settled;
    waiting = has.waiting;
    whole = false;
    did = none.0.all start has.settled has.waiting has.did;
    first = before_both (ServedLines work has.settled has.waiting first now held between buffer)
        (MetFirst work first.state has.settled has.waiting held between) first.left (ahead now.lines now.left)
        (λ bytes text so_far.
        met_so_far work first now held between buffer bytes text has.settled has.waiting so_far) has.served;
  })

-- ---- whether replies wait

module _ {Job : Type 0} (Did : Deeds Job) (each : Bool) (lines : LinesState) (job job' : Job)
    (held held' : Option (List ℕ)) (buffer buffer' : List ℕ) where
  -- none does where the source has to be asked
  pub due_idle : PutsDue Did each lines job job' held held' buffer buffer' → needs_no_source lines ≡ false →
      buffer' ≡ []
  due_idle (inl off) asks = absurd (not_both (needs_no_source lines) off.next asks)
    where
      not_both : (next : Bool) → IsTrue next → next ≡ false → ⊥
      not_both true is isn't = cc
      not_both false is isn't = cc
  due_idle (inr put) asks = put.1

  -- nor where the job settles each line
  pub due_each : PutsDue Did each lines job job' held held' buffer buffer' → each ≡ true → buffer' ≡ []
  due_each (inl off) settles = absurd (not_both each settles off.grouped)
    where
      not_both : (next : Bool) → next ≡ true → next ≡ false → ⊥
      not_both true is isn't = cc
      not_both false is isn't = cc
  due_each (inr put) settles = put.1

-- ---- before the first line, and behind the last

-- no line was met, and nothing was written
pub did_none : {State Reason : Type 0} (work : LineWork State Reason) (start : State)
    (Did : List Line → List Line → Bool → Type 0) (held input : Option (List ℕ)) → Did [] [] true →
    DidSome work start Did held held input
did_none work start Did held input nothing = record {
  settled = [];
  waiting = [];
  whole = true;
  did = nothing;
  first = none input;
}
  where
    none : (input : Option (List ℕ)) → IfSome input (MetFirst work start [] [] held held)
    none None = tt
    none (Some bytes) = record {
      first = [];
      later = [];
      others = pieces bytes;
      are = refl;
      settled_are = refl;
      waiting_are = refl;
      written = inr (nothing_written held []);
    }

-- all lines were settled, and more was done behind them
pub all_more : (Before After : List Line → List Line → Bool → Type 0) (input : Option (List ℕ)) →
    DidAll Before input → ((settled : List Line) → Before settled [] true → After settled [] true) →
    DidAll After input
all_more Before After input all more = record {
  settled = all.settled;
  did = more all.settled all.did;
  all = all.all;
}

-- all lines are the first ones
pub all_some : {State Reason : Type 0} (work : LineWork State Reason) (start : State)
    (Did : List Line → List Line → Bool → Type 0) (held held' input : Option (List ℕ)) → DidAll Did input →
    DidSome work start Did held held' input
all_some work start Did held held' input all = record {
  settled = all.settled;
  waiting = [];
  whole = true;
  did = all.did;
  first = every input all.all;
}
  where
    every : (input : Option (List ℕ)) → IfSome input (λ bytes. all.settled ≡ map line_met (pieces bytes)) →
        IfSome input (MetFirst work start all.settled [] held held')
    every None are = tt
    every (Some bytes) are = record {
      first = pieces bytes;
      later = [];
      others = [];
      are = sym (append-nil (pieces bytes));
      settled_are = are;
      waiting_are = refl;
      written = inl (refl, refl);
    }
