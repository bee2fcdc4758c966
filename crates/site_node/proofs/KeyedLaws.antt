-- Commands under keys.
use Rattle.std.proofs.Common.{◌≡◌, ◌∙◌, ℕ, List, Option, Some, None, refl, ap, sym, subst}
use Rattle.site_core.specs.declared.desk.requests.Spending.TheVariants.{Spent, Queued}
use Rattle.command_keys.specs.Keys.{KeysValue, outcome_of}
use Rattle.command_keys.specs.Books.{KeyBookValue, HasRoom}
use Rattle.apply_lanes.specs.Kepts.{KeptValue, SeatValue}
use Rattle.apply_lanes.specs.Keeping.{with_room}
use Rattle.site_words.specs.declared.commands.DeskCommand.{DeskCommand}
use Rattle.site_words.specs.declared.commands.DeskCommand.TheVariants.{Issue, Give, Spend, Take, Close}
use Rattle.site_words.specs.declared.commands.DeskCommand.TheVariants.{Outcome as AnOutcome, Cancel as ACancel}
use Rattle.site_node.specs.Acting.{Acts}
use Rattle.site_node.specs.declared.reply.Reply.{Reply}
use Rattle.site_node.specs.declared.reply.Reply.TheVariants.{Number, Spending, Outcome, Refused, BadDeadline}
use Rattle.site_node.specs.declared.reply.Reply.TheVariants.{KeyRefused, KeyReused}

same_keys : (old new : KeptValue) → new ≡ old → new.keys ≡ old.keys
same_keys old new h = ap (λ (k : KeptValue). k.keys) h

-- no command changes the keys
pub acts_keep_keys : (old : KeptValue) (was : SeatValue) (command : DeskCommand) (reply : Reply) (new : KeptValue)
    (now : SeatValue) → Acts old was command reply new now → new.keys ≡ old.keys
acts_keep_keys old was (Issue amount) (Number n) new now h = ap (λ (k : KeptValue). k.keys) h.1.counter
acts_keep_keys old was (Issue amount) (Refused cause) new now h = same_keys old new h.same_desk
acts_keep_keys old was (Issue amount) (Spending spending) new now h = absurd h
acts_keep_keys old was (Issue amount) (Outcome status) new now h = absurd h
acts_keep_keys old was (Issue amount) BadDeadline new now h = absurd h
acts_keep_keys old was (Issue amount) KeyRefused new now h = absurd h
acts_keep_keys old was (Issue amount) KeyReused new now h = absurd h
acts_keep_keys old was (Give peer amount) (Number n) new now h = ap (λ (k : KeptValue). k.keys) h.1.rest
acts_keep_keys old was (Give peer amount) (Refused cause) new now h = same_keys old new h.same_desk
acts_keep_keys old was (Give peer amount) (Spending spending) new now h = absurd h
acts_keep_keys old was (Give peer amount) (Outcome status) new now h = absurd h
acts_keep_keys old was (Give peer amount) BadDeadline new now h = absurd h
acts_keep_keys old was (Give peer amount) KeyRefused new now h = absurd h
acts_keep_keys old was (Give peer amount) KeyReused new now h = absurd h
acts_keep_keys old was (Spend amount deadline latest) (Spending spending) new now h =
    ap (λ (k : KeptValue). k.keys) h.2.counter
acts_keep_keys old was (Spend amount deadline latest) (Refused cause) new now h = same_keys old new h.same_desk
acts_keep_keys old was (Spend amount deadline latest) BadDeadline new now h = same_keys old new h.same_desk
acts_keep_keys old was (Spend amount deadline latest) (Number n) new now h = absurd h
acts_keep_keys old was (Spend amount deadline latest) (Outcome status) new now h = absurd h
acts_keep_keys old was (Spend amount deadline latest) KeyRefused new now h = absurd h
acts_keep_keys old was (Spend amount deadline latest) KeyReused new now h = absurd h
acts_keep_keys old was (Take amount) (Spending (Spent n)) new now h = ap (λ (k : KeptValue). k.keys) h.1.counter
acts_keep_keys old was (Take amount) (Spending (Queued ticket)) new now h = absurd h
acts_keep_keys old was (Take amount) (Refused cause) new now h = same_keys old new h.same_desk
acts_keep_keys old was (Take amount) (Number n) new now h = absurd h
acts_keep_keys old was (Take amount) (Outcome status) new now h = absurd h
acts_keep_keys old was (Take amount) BadDeadline new now h = absurd h
acts_keep_keys old was (Take amount) KeyRefused new now h = absurd h
acts_keep_keys old was (Take amount) KeyReused new now h = absurd h
acts_keep_keys old was (AnOutcome ticket) (Outcome status) new now h = ap (λ (k : KeptValue). k.keys) h.rest
acts_keep_keys old was (AnOutcome ticket) (Number n) new now h = absurd h
acts_keep_keys old was (AnOutcome ticket) (Spending spending) new now h = absurd h
acts_keep_keys old was (AnOutcome ticket) (Refused cause) new now h = absurd h
acts_keep_keys old was (AnOutcome ticket) BadDeadline new now h = absurd h
acts_keep_keys old was (AnOutcome ticket) KeyRefused new now h = absurd h
acts_keep_keys old was (AnOutcome ticket) KeyReused new now h = absurd h
acts_keep_keys old was (ACancel ticket) (Outcome status) new now h = ap (λ (k : KeptValue). k.keys) h.rest
acts_keep_keys old was (ACancel ticket) (Number n) new now h = absurd h
acts_keep_keys old was (ACancel ticket) (Spending spending) new now h = absurd h
acts_keep_keys old was (ACancel ticket) (Refused cause) new now h = absurd h
acts_keep_keys old was (ACancel ticket) BadDeadline new now h = absurd h
acts_keep_keys old was (ACancel ticket) KeyRefused new now h = absurd h
acts_keep_keys old was (ACancel ticket) KeyReused new now h = absurd h
acts_keep_keys old was (Close heir) (Number n) new now h = ap (λ (k : KeptValue). k.keys) h.1.rest
acts_keep_keys old was (Close heir) (Refused cause) new now h = same_keys old new h.same_desk
acts_keep_keys old was (Close heir) (Spending spending) new now h = absurd h
acts_keep_keys old was (Close heir) (Outcome status) new now h = absurd h
acts_keep_keys old was (Close heir) BadDeadline new now h = absurd h
acts_keep_keys old was (Close heir) KeyRefused new now h = absurd h
acts_keep_keys old was (Close heir) KeyReused new now h = absurd h

-- after a command there is still room for its key, which is still free
pub room_left : (ready : KeptValue) (was : SeatValue) (command : DeskCommand) (reply : Reply) (done : KeptValue)
    (now : SeatValue) → Acts ready was command reply done now → HasRoom ready.keys → HasRoom done.keys
room_left ready was command reply done now h room =
    subst (λ (b : KeyBookValue). HasRoom b) (sym (acts_keep_keys ready was command reply done now h)) room

pub still_free : (old : KeptValue) (book : KeyBookValue) (was : SeatValue) (key : List ℕ) (command : DeskCommand)
    (reply : Reply) (done : KeptValue) (now : SeatValue) → Acts (with_room old book) was command reply done now
    → outcome_of old.keys.keys key ≡ None → outcome_of done.keys.keys key ≡ None
still_free old book was key command reply done now h free =
    subst (λ (b : KeyBookValue). outcome_of b.keys key ≡ None)
    (sym (acts_keep_keys (with_room old book) was command reply done now h)) free
