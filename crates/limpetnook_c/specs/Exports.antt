-- Each export has the contract of the function of its name in `limpetnook`: the same clauses over the same signature. What is proved of the one contract,
-- such as that no second answer meets it, so holds of the other.
use Rattle.std.specs.Prelude.{◌≡◌}
use seplogic.Ra.Ura.{Ura}
use base.Logic.{SProp}
use prog.Memory.{Memory}
use prog.Routine.{Routine}
use types.Logic.{Logic}
use contract.Monad.{Fun}
use denote.Triple.Clauses.{Ended, Clauses}
use Rattle.limpetnook.specs.contracts as functions
use Rattle.limpetnook_c.specs.contracts as exports

module _ (T : Ended) where
  -- a contract as the prover makes it of any function's source: clauses, in any model of the machine
  abbrev pub Written : Type 2
  Written = (M : Type 1) (𝓤 : Ura M) (𝓛 : Logic 𝓤) → (Memory → SProp 𝓤) → (Routine → Fun 𝓤) → Clauses 𝓤 T

  -- two of them are one
  abbrev pub Same : Written → Written → Type 2
  Same c d = c ≡ d

pub record Exports : Type 2 where
  pub limpet-card-size : Same functions.limpet_card_size.ended (λ M 𝓤. exports.limpet_card_size.clauses) (λ M 𝓤. functions.limpet_card_size.clauses)
  pub limpet-version : Same functions.limpet_version.ended (λ M 𝓤. exports.limpet_version.clauses) (λ M 𝓤. functions.limpet_version.clauses)
  pub limpet-aes128 : Same functions.limpet_aes128.ended (λ M 𝓤. exports.limpet_aes128.clauses) (λ M 𝓤. functions.limpet_aes128.clauses)
  pub limpet-code : Same functions.limpet_code.ended (λ M 𝓤. exports.limpet_code.clauses) (λ M 𝓤. functions.limpet_code.clauses)
  pub limpet-issue : Same functions.limpet_issue.ended (λ M 𝓤. exports.limpet_issue.clauses) (λ M 𝓤. functions.limpet_issue.clauses)
  pub limpet-command : Same functions.limpet_command.ended (λ M 𝓤. exports.limpet_command.clauses) (λ M 𝓤. functions.limpet_command.clauses)
  pub limpet-reset : Same functions.limpet_reset.ended (λ M 𝓤. exports.limpet_reset.clauses) (λ M 𝓤. functions.limpet_reset.clauses)
  pub limpet-recover : Same functions.limpet_recover.ended (λ M 𝓤. exports.limpet_recover.clauses) (λ M 𝓤. functions.limpet_recover.clauses)
  pub limpet-store : Same functions.limpet_store.ended (λ M 𝓤. exports.limpet_store.clauses) (λ M 𝓤. functions.limpet_store.clauses)
  pub limpet-stores : Same functions.limpet_stores.ended (λ M 𝓤. exports.limpet_stores.clauses) (λ M 𝓤. functions.limpet_stores.clauses)
  pub limpet-to-text : Same functions.limpet_to_text.ended (λ M 𝓤. exports.limpet_to_text.clauses) (λ M 𝓤. functions.limpet_to_text.clauses)
  pub limpet-from-text : Same functions.limpet_from_text.ended (λ M 𝓤. exports.limpet_from_text.clauses) (λ M 𝓤. functions.limpet_from_text.clauses)
  pub limpet-text-to-new : Same functions.limpet_text_to_new.ended (λ M 𝓤. exports.limpet_text_to_new.clauses) (λ M 𝓤. functions.limpet_text_to_new.clauses)
  pub limpet-text-to-old : Same functions.limpet_text_to_old.ended (λ M 𝓤. exports.limpet_text_to_old.clauses) (λ M 𝓤. functions.limpet_text_to_old.clauses)
