-- If words spell a command, an outcome of the command (its answer, or `Large`) is an outcome of the words; and a refusal of words that spell no
-- command names their first error.
use Rattle.std.proofs.Common.{◌≡◌, ◌⊎◌, ◌≢◌, ℕ, List, sym, ◌∙◌, subst, inl, inr}
use Rattle.std.specs.Prelude.{Result, Ok, Err}
use Rattle.calc_base.specs.declared.faults.NoMemory.{NoMemory}
use Rattle.calc_base.specs.declared.words.WordsFault.{WordsFault}
use Rattle.calc_base.specs.declared.words.WordsFault.TheVariants as fault
use Rattle.sym_model.specs.Command.{Command, batch}
use Rattle.sym_model.specs.CommandOffence.{Offence}
use Rattle.sym_model.specs.Entry.{Entry, SpellsWithoutOffence}
use Rattle.sym_model.specs.Grammar.{all_entries}
use Rattle.sym_model.specs.Outcome.{MayBeLarge}
use Rattle.calc_language.specs.Reading.{IsFaultOf}
use Rattle.calc_replies.specs.declared.outcome.Outcome.{Outcome}
use Rattle.calc_replies.specs.declared.outcome.Outcome.TheVariants.{Answered, Written, Refused, Large, Told}
use Rattle.calc_replies.specs.declared.outcome.Task.{Task}
use Rattle.calc_replies.specs.declared.outcome.Task.TheVariants.{Lines, Workload, Put}
use Rattle.calc_replies.specs.Computed.{IsReplyTo, Computes, Accepts, IsTaskOf, IsTaskFor, AcceptsTask}

pub computes_reply : (entries : List Entry) (words : List (List ℕ)) (command : Command) (result : Result Outcome NoMemory)
    → SpellsWithoutOffence entries words command → IsReplyTo command result → Computes entries words result
computes_reply entries words command (Ok (Answered block form)) spelled reply = record { command = command; spelled = spelled; reply = reply }
computes_reply entries words command (Ok (Written text)) spelled reply = record { command = command; spelled = spelled; reply = reply }
computes_reply entries words command (Ok (Refused reason)) spelled reply = absurd reply
computes_reply entries words command (Ok Large) spelled reply = record { command = command; spelled = spelled; reply = reply }
computes_reply entries words command (Ok (Told lines)) spelled reply = record { command = command; spelled = spelled; reply = reply }
computes_reply entries words command (Err e) spelled reply = tt

pub accepts_reply : (command : Command) (result : Result Outcome NoMemory) (other : Command) → IsReplyTo command result
    → command ≡ other → Accepts other result
accepts_reply command (Ok (Answered block form)) other reply same = tt
accepts_reply command (Ok (Written text)) other reply same = tt
accepts_reply command (Ok (Refused reason)) other reply same = reply
accepts_reply command (Ok Large) other reply same = subst MayBeLarge same reply
accepts_reply command (Ok (Told lines)) other reply same = tt
accepts_reply command (Err e) other reply same = tt

-- if the words spell the command without an error, a task of the command (to write its outcome, or to run lines) is a task for the words
pub task_reply : (words : List (List ℕ)) (command : Command) (result : Result Task NoMemory)
    → SpellsWithoutOffence all_entries words command → IsTaskOf command result → IsTaskFor words result
task_reply words command (Ok Lines) spelled task = subst (SpellsWithoutOffence all_entries words) task spelled
task_reply words command (Ok (Workload lines seed)) spelled task = subst (SpellsWithoutOffence all_entries words) task spelled
task_reply words command (Ok (Put outcome)) spelled task = computes_reply all_entries words command (Ok outcome) spelled task
task_reply words command (Err e) spelled task = tt

no_reply : (outcome : Outcome) → IsReplyTo batch (Ok outcome) → ⊥
no_reply (Answered answer form) reply = reply.1
no_reply (Written text) reply = reply.1.meets
no_reply (Refused reason) reply = reply
no_reply Large (inl large) = large.1
no_reply Large (inr large) = large.1
no_reply (Told lines) reply = reply

pub accepts_task : (command : Command) (result : Result Task NoMemory) (other : Command) → IsTaskOf command result
    → command ≡ other → AcceptsTask other result
accepts_task command (Ok Lines) other task same = sym same ∙ task
accepts_task command (Ok (Workload lines seed)) other task same = sym same ∙ task
accepts_task command (Ok (Put outcome)) other task same =
    (accepts_reply command (Ok outcome) other task same, λ is. no_reply outcome (subst (λ c. IsReplyTo c (Ok outcome)) (same ∙ is) task))
accepts_task command (Err e) other task same = tt

pub refused_by : (offence : Offence) (reason : WordsFault) → reason ≢ fault.NoMemory
    → IsFaultOf offence reason ⊎ (reason ≡ fault.NoMemory) → IsFaultOf offence reason
refused_by offence reason memory (inl is) = is
refused_by offence reason memory (inr none) = absurd (memory none)

pub refused_at : (word byte : ℕ) (reason : WordsFault) → reason ≢ fault.NoMemory
    → (reason ≡ fault.Syntax (record { word = word; byte = byte })) ⊎ (reason ≡ fault.NoMemory)
    → reason ≡ fault.Syntax (record { word = word; byte = byte })
refused_at word byte reason memory (inl is) = is
refused_at word byte reason memory (inr none) = absurd (memory none)
