-- The text of each reply, without the line feed at its end.
use Rattle.std.specs.Prelude.{ℕ, ◌-◌, ◌==◌, Bool, List, [], ◌∷◌, ◌++◌, length, take, Option, Some, None, Result, Ok}
use Rattle.std.specs.Prelude.{Err, if◌then◌else◌, decimal, codes}
use Rattle.std.specs.List.{flat_map}
use Rattle.std.specs.Option.{option_map}
use Rattle.rights_types.specs.Chains.{end, moves_of, is_closed}
use Rattle.rights_types.specs.Rights.{sum_sites, issued, spent}
use Rattle.site_core.specs.declared.desk.requests.Spending.TheVariants.{Spent as SpentAtOnce, Queued as QueuedUnder}
use Rattle.reply_texts.specs.Texts.{number_text, spending_text, status_text, desk_error_name}
use Rattle.world_core.specs.Values.{WorldValue}
use Rattle.world_core.specs.Worlds.{log, put, applied, count, sites_of, packet, packet_text, held_by, on_way}
use Rattle.world_core.specs.declared.reply.EntryVerdict.{EntryVerdict}
use Rattle.world_core.specs.declared.reply.EntryVerdict.TheVariants.{Ready, Held, Repeat, AfterClose, Full}
use Rattle.world_core.specs.declared.reply.Reply.{Reply}
use Rattle.world_core.specs.declared.reply.Reply.TheVariants.{Number, Spent, Queued, Served, Expired, Tells, Asks}
use Rattle.world_core.specs.declared.reply.Reply.TheVariants.{Packet, Verdicts, HeardBeat, Granted, Denied}
use Rattle.world_core.specs.declared.reply.Reply.TheVariants.{GrantedBefore, Old, Noted, Refused, Taken, TakenBack}
use Rattle.world_core.specs.declared.reply.Reply.TheVariants.{Nothing}
use Rattle.world_core.specs.declared.fault.WorldError.{WorldError}
use Rattle.world_core.specs.declared.fault.WorldError.TheVariants.{Ended, NoSuchSite, NoPacket, NotForSite, Forged}
use Rattle.world_core.specs.declared.fault.WorldError.TheVariants.{Desk, OutOfMemory}

abbrev pub error_name : WorldError → List ℕ
error_name Ended = codes "Ended"
error_name NoSuchSite = codes "NoSuchSite"
error_name NoPacket = codes "NoPacket"
error_name NotForSite = codes "NotForSite"
error_name Forged = codes "Forged"
error_name (Desk e) = desk_error_name e
error_name OutOfMemory = codes "OutOfMemory"

abbrev pub verdict_text : EntryVerdict → List ℕ
verdict_text (Ready n) = codes "ready " ++ decimal n
verdict_text Held = codes "held"
verdict_text Repeat = codes "repeat"
verdict_text AfterClose = codes "afterclose"
verdict_text Full = codes "full"

-- the verdicts on what arrived, separated by single spaces
abbrev pub verdicts_text : List EntryVerdict → List ℕ
verdicts_text [] = codes "empty"
verdicts_text (v ∷ vs) = verdict_text v ++ flat_map (λ v. 32 ∷ verdict_text v) vs

-- a line without its line feed
abbrev pub unended : Option (List ℕ) → List ℕ
unended None = []
unended (Some line) = take (length line - 1) line

-- a packet's number and line
abbrev pub packet_reply : WorldValue → ℕ → List ℕ
packet_reply w n = codes "packet " ++ decimal n ++ codes " " ++ unended (option_map (packet_text w) (packet w n))

-- a reply, which may name a packet of the world
abbrev pub reply_text : {A : Type 0} → WorldValue → Reply A → List ℕ
reply_text w (Number n) = number_text n
reply_text w (Spent n) = spending_text (SpentAtOnce n)
reply_text w (Queued ticket) = spending_text (QueuedUnder ticket)
reply_text w (Served ticket n) = codes "served " ++ decimal ticket ++ codes " " ++ decimal n
reply_text w (Expired n) = codes "expired " ++ decimal n
reply_text w (Tells status) = status_text status
reply_text w (Asks n) = codes "asks " ++ decimal n
reply_text w (Packet n) = packet_reply w n
reply_text w (Verdicts vs) = verdicts_text vs
reply_text w HeardBeat = codes "beat"
reply_text w (Granted n) = codes "granted " ++ decimal n
reply_text w (Denied n) = codes "denied " ++ packet_reply w n
reply_text w GrantedBefore = codes "repeated"
reply_text w Old = codes "old"
reply_text w Noted = codes "noted"
reply_text w (Refused cause) = codes "refused " ++ decimal cause
reply_text w (Taken n) = codes "taken " ++ decimal n
reply_text w (TakenBack n back) = codes "taken " ++ decimal n ++ codes " back " ++ decimal back
reply_text w Nothing = codes "nothing"

abbrev pub outcome_text : {A : Type 0} → WorldValue → Result (Reply A) WorldError → List ℕ
outcome_text w (Ok reply) = reply_text w reply
outcome_text w (Err e) = codes "error " ++ error_name e

abbrev pub bit : Bool → List ℕ
bit b = if b then codes "1" else codes "0"

-- the sums of a site's log
unfoldable pub site_line : WorldValue → ℕ → List ℕ
site_line w s =
    codes "site " ++ decimal s
    ++ codes " number " ++ decimal (end (log w s))
    ++ codes " issued " ++ decimal (issued (moves_of (log w s)))
    ++ codes " spent " ++ decimal (spent (moves_of (log w s)))
    ++ codes " held " ++ decimal (held_by w s)
    ++ codes " closed " ++ bit (is_closed (log w s)) ++ 10 ∷ []

-- how far s applied the log of o, and what is in transit from o to s
unfoldable pub pair_line : WorldValue → ℕ → ℕ → List ℕ
pair_line w s o =
    codes "pair " ++ decimal s ++ codes " " ++ decimal o
    ++ codes " applied " ++ decimal (end (applied w s o))
    ++ codes " put " ++ decimal (end (put w s o))
    ++ codes " way " ++ decimal (on_way w o s) ++ 10 ∷ []

-- a line for each origin that is not the receiver s
abbrev pub other_line : WorldValue → ℕ → ℕ → List ℕ
other_line w s o = if o == s then [] else pair_line w s o

unfoldable pub pair_lines : WorldValue → ℕ → List ℕ
pair_lines w s = flat_map (other_line w s) (sites_of w)

-- the sums over all sites and pairs
unfoldable pub total_text : WorldValue → List ℕ
total_text w =
    codes "total issued " ++ decimal (sum_sites (count w) (λ s. issued (moves_of (log w s))))
    ++ codes " spent " ++ decimal (sum_sites (count w) (λ s. spent (moves_of (log w s))))
    ++ codes " held " ++ decimal (sum_sites (count w) (held_by w))
    ++ codes " way " ++ decimal (sum_sites (count w) (λ o. sum_sites (count w) (λ s. on_way w o s)))

-- all sites, then all pairs by receivers, then the sums
abbrev pub report_text : WorldValue → List ℕ
report_text w = flat_map (site_line w) (sites_of w) ++ flat_map (pair_lines w) (sites_of w) ++ total_text w
