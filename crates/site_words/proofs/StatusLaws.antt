-- The text of the status object, which has only whole numbers and truth values.
use Rattle.std.proofs.Common.{◌≡◌, ◌∙◌, ℕ, zero, suc, List, [], ◌∷◌, Option, Some, None, map, false, refl, ap}
use Rattle.serde_json.specs.Data.{Data}
use Rattle.serde_json.specs.View.{items_of}
use Rattle.serde_json.specs.Written.{has_float, items_have_float, compact_text}
use Rattle.thread_parts.specs.declared.view.DeskView.{DeskView}
use Rattle.site_words.specs.declared.status_object.JournalView.{JournalView}
use Rattle.site_words.specs.declared.status_object.PeerView.{PeerView}
use Rattle.site_words.specs.Status.{peer_data, status_data, status_text}

no_float_in_peers : (peers : List PeerView) → items_have_float (items_of (map peer_data peers)) ≡ false
no_float_in_peers [] = refl
no_float_in_peers (peer ∷ peers) = no_float_in_peers peers

no_float : (desk : DeskView) (peers : List PeerView) (journal : Option JournalView) (keys : ℕ)
    → has_float (status_data desk peers journal keys) ≡ false
no_float desk peers None zero = rw (no_float_in_peers peers) refl
no_float desk peers None (suc n) = rw (no_float_in_peers peers) refl
no_float desk peers (Some journal) zero = rw (no_float_in_peers peers) refl
no_float desk peers (Some journal) (suc n) = rw (no_float_in_peers peers) refl

pub text_of : (desk : DeskView) (peers : List PeerView) (journal : Option JournalView) (keys : ℕ) (d : Data)
    (text : List ℕ) → d ≡ status_data desk peers journal keys → (has_float d ≡ false → text ≡ compact_text d)
    → text ≡ status_text desk peers journal keys
text_of desk peers journal keys d text same h =
    h (ap has_float same ∙ no_float desk peers journal keys) ∙ ap compact_text same
