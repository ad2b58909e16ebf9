-- Each message of a port bears its number, so that what a claim answers fits its slot.
use Rattle.std.proofs.Common.{◌≡◌, ℕ, Bool, true, false, not, ◌==◌, ◌&&◌, List, [], ◌∷◌, ◌++◌, length, Option, Some, None, refl, sym, ap, ◌∙◌, arith, subst}
use Rattle.std.specs.Prelude.{if◌then◌else◌, nat_le}
use Rattle.std.specs.Option.{option_map_or}
use Rattle.std.proofs.lemmas.Bool.Decides.{nat_tests}
use Rattle.std.proofs.lemmas.Grind.{common_steps}
use Rattle.std.proofs.lemmas.List.Elements.{All-filter, All-take}
use Rattle.std.proofs.lemmas.List.Folds.{list_all-append}
use Rattle.std.proofs.lemmas.List.Sums.{list_all-from_AllPass, AllPass-from_list_all}
use Rattle.ccr_base.specs.declared.names.TaskId.{TaskId}
use Rattle.ccr_base.specs.declared.messages.Msg.{Msg}
use Rattle.ccr_base.specs.declared.patterns.Slot.{Slot}
use Rattle.ccr_base.specs.Selection.{holds, fitting, is_choosable}
use Rattle.ccr_base.proofs.Booleans.{same_number}
use Rattle.ccr_places.specs.declared.claims.StandingClaim.{StandingClaim}
use Rattle.ccr_places.specs.Ports.{PortState, may_post, may_claim, is_claimed_by, first_fitting}
use Rattle.ccr_port.specs.declared.claims.Claimed.{Claimed}
use Rattle.ccr_port.specs.declared.claims.Claimed.TheVariants.{Got, Busy, Short}
use Rattle.ccr_port.specs.Entries.{messages_of, without_entry, without_entries}
use Rattle.ccr_port.specs.Replies.{are_at, claim_reply, free_claim_reply, fits_slot}
use Rattle.ccr_port.proofs.Chains.{both}

-- ---- messages come and go

pub own_more : (number : ℕ) (ms : List Msg) (m : Msg) → are_at number ms ≡ true → (m.port == number) ≡ true → are_at number (ms ++ m ∷ []) ≡ true
own_more number ms m own here = list_all-append (λ (x : Msg). x.port == number) ms (m ∷ []) ∙ rw (own, here) refl

own-without : (number key : ℕ) (es : List (ℕ × Msg)) → are_at number (messages_of es) ≡ true → are_at number (messages_of (without_entry key es)) ≡ true
own-without number key [] own = refl
own-without number key (e ∷ es) own =
    let parts = both (e.1.port == number) (are_at number (messages_of es)) own in
    by (e.0 == key) parts.0 parts.1 (own-without number key es parts.1)
  where
    by : (b : Bool) → (e.1.port == number) ≡ true → are_at number (messages_of es) ≡ true → are_at number (messages_of (without_entry key es)) ≡ true → are_at number (messages_of (if b then es else e ∷ without_entry key es)) ≡ true
    by true here rest again = rest
    by false here rest again = rw here again

pub own-rest : (number : ℕ) (ks : List ℕ) (es : List (ℕ × Msg)) → are_at number (messages_of es) ≡ true → are_at number (messages_of (without_entries ks es)) ≡ true
own-rest number [] es own = own
own-rest number (k ∷ ks) es own = own-rest number ks (without_entry k es) (own-without number k es own)

-- ---- a claim is answered

module _ (slot : Slot) (ms : List Msg) (own : are_at slot.port ms ≡ true) (even : nat_le slot.least slot.most ≡ true) where
  free_fits : fits_slot slot (free_claim_reply slot ms) ≡ true
  free_fits = by (is_choosable slot ms) refl
    where
      chosen : List Msg
      chosen = first_fitting slot.most slot.pred ms

      all : are_at slot.port chosen ≡ true
      all =
          let p : Msg → Bool = λ (m : Msg). m.port == slot.port in
          let P : Msg → Type 0 = λ (m : Msg). p m ≡ true in
          list_all-from_AllPass p chosen (All-take P slot.most (fitting slot.pred ms) (All-filter (λ (m : Msg). holds slot.pred m.value) P ms (AllPass-from_list_all p ms own)))

      by : (b : Bool) → is_choosable slot ms ≡ b → fits_slot slot (if b then Got chosen else Short (length (fitting slot.pred ms))) ≡ true
      by true is =
          let least : nat_le slot.least (length chosen) ≡ true = grind (arith, nat_tests, common_steps, is, even) in
          let most : nat_le (length chosen) slot.most ≡ true = grind (arith, nat_tests, common_steps) in
          rw (least, most, all) refl
      by false is = grind (arith, nat_tests, is)

  reply_fits : (o : Option StandingClaim) → fits_slot slot (option_map_or (λ (claim : StandingClaim). Busy claim.task) o (free_claim_reply slot ms)) ≡ true
  reply_fits (Some claim) = refl
  reply_fits None = free_fits

pub claim_fits : (port : PortState) (task : TaskId) (slot : Slot) (reply : Claimed) → are_at port.number port.items ≡ true → may_claim port task slot ≡ true → reply ≡ claim_reply port slot → fits_slot slot reply ≡ true
claim_fits port task slot reply own may is =
    let parts = both ((slot.port == port.number) && nat_le slot.least slot.most) (not (is_claimed_by port task)) may in
    let two = both (slot.port == port.number) (nat_le slot.least slot.most) parts.0 in
    let here : slot.port ≡ port.number = same_number slot.port port.number two.0 in
    let mine : are_at slot.port port.items ≡ true = subst (λ n. are_at n port.items ≡ true) (sym here) own in
    ap (fits_slot slot) is ∙ reply_fits slot port.items mine two.1 port.claim

-- the message of a post bears the number
pub own_post : (port : PortState) (message : Msg) → may_post port message ≡ true → (message.port == port.number) ≡ true
own_post port message may = (both (message.port == port.number) _ may).0
