-- Each change has its command after one more entry.
use Rattle.std.proofs.Common.{◌≡◌, ◌≤◌, ℕ, Bool, true, false, cond, List, [], ◌∷◌, length, ap, arith}
use Rattle.std.specs.Prelude.{filter}
use Rattle.mtp_codes.specs.declared.command.Command.{Command}
use Rattle.pol_events.specs.Events.{PlainEntry}
use Rattle.pol_history.specs.Looking.{History, past}
use Rattle.pol_history.specs.Modules.{completes_by, description_by, is_moving, since_docking}
use Rattle.pol_site.specs.Commanded.{IsCommanded, IsCommandedNow, changes_by, times_changed}
use Rattle.pol_site.specs.Stories.{controls_in, is_given, sent_to, story, times_sent, touches}
use Rattle.pol_simulated.proofs.Counted.{untouched_kept}

-- so it is now
pub commanded_now : (history : History) → IsCommanded history → IsCommandedNow history
commanded_now [] commanded = λ tag service command. omega arith
commanded_now (entry ∷ older) commanded = commanded.0

-- why the changes of a module have their commands after one more entry: the entry doesn't touch the module; nothing was
-- told of it since it was docked; its past is as it was, and it wasn't moved; or its commands were counted
pub data Commands (older : History) (entry : PlainEntry) (tag : List ℕ) : Type 0 where
  untouched : touches tag entry ≡ false → Commands older entry tag
  fresh : since_docking (past tag (entry ∷ older)) ≡ [] → Commands older entry tag
  unmoved : past tag (entry ∷ older) ≡ past tag older → is_moving entry.event ≡ false → Commands older entry tag
  counted : ((service : List ℕ) (command : Command) →
      times_changed service command (past tag (entry ∷ older))
      ≤ times_sent tag service command (story tag (entry ∷ older))) →
      Commands older entry tag

-- one more entry that doesn't move the module takes no command away
sent_grows : (tag service : List ℕ) (command : Command) (entry : PlainEntry) (older : History) →
    is_moving entry.event ≡ false →
    times_sent tag service command (story tag older) ≤ times_sent tag service command (story tag (entry ∷ older))
sent_grows tag service command entry older still = go (touches tag entry)
  where
    is : PlainEntry → Bool
    is entry = is_given service command (sent_to tag entry)

    longer : (b : Bool) (xs : History) → length xs ≤ length (cond b (entry ∷ xs) xs)
    longer true xs = omega arith
    longer false xs = omega arith

    go : (own : Bool) →
        times_sent tag service command (story tag older)
        ≤ times_sent tag service command (cond own (entry ∷ story tag older) (story tag older))
    go false = omega arith
    go true = rw still (longer (is_given service command (sent_to tag entry))
        (filter (λ entry. is_given service command (sent_to tag entry)) (since_docking (story tag older))))

-- so its changes have their commands
commanded_at : (older : History) (entry : PlainEntry) (tag : List ℕ) → IsCommandedNow older → Commands older entry tag →
    (service : List ℕ) (command : Command) →
    times_changed service command (past tag (entry ∷ older))
    ≤ times_sent tag service command (story tag (entry ∷ older))
commanded_at older entry tag now (untouched free) service command =
    let same = untouched_kept tag older entry free in rw (same.0, same.1) (now tag service command)
commanded_at older entry tag now (fresh none) service command =
    let zero : times_changed service command (past tag (entry ∷ older)) ≡ 0 =
    ap (λ entries. changes_by (λ procedure. completes_by service procedure (description_by (past tag (entry ∷ older))))
    command (controls_in service entries)) none in
    rw zero (omega arith)
commanded_at older entry tag now (unmoved same still) service command =
    let grows = sent_grows tag service command entry older still in
    let before = now tag service command in
    rw same (omega (arith, grows, before))
commanded_at older entry tag now (counted each) service command = each service command

-- one more entry
pub commanded_more : (older : History) (entry : PlainEntry) → IsCommanded older →
    ((tag : List ℕ) → Commands older entry tag) → IsCommanded (entry ∷ older)
commanded_more older entry commanded each = (
  λ tag service command. commanded_at older entry tag (commanded_now older commanded) (each tag) service command,
  commanded,
)
