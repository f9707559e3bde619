-- The turns of a server.
use Rattle.std.proofs.Common.{◌≡◌, ◌++◌, ◌&&◌, Bool, true, false, not, List, [], append-nil, map, Option, Some, None, option_map, refl, sym, subst, ◌∙◌}
use Rattle.proto_base.proofs.Common.{Text, Vec, none-some, same_Some}
use Rattle.proto_messages.specs.Messages.{MessageOf, NotificationOf, message_view, notification}
use Rattle.proto_messages.specs.Reading.{IsMessageOf}
use Rattle.proto_messages.specs.declared.message.Message.{Message}
use Rattle.proto_session.specs.Changes.{told_after}
use Rattle.proto_session.specs.Sessions.{SessionOf, view_of}
use Rattle.proto_session.specs.Steps.{Holds, IsMessageTaken, IsRefused, IsRefusedWhile, IsTelling, IsTurnOf, is_running, is_time, status_of}
use Rattle.proto_session.specs.declared.session.Phase.TheVariants.{Ended, EndedEarly, Fresh, Running, ShutDown}
use Rattle.proto_session.specs.declared.session.Phase.{Phase}
use Rattle.proto_session_told.specs.Telling.{IsToldOf, news, told_of}
use Rattle.proto_session_told.specs.declared.telling.Told.{Told}

-- one after which nothing is told
pub turn_untold : (holds : Holds) (old mid : SessionOf) (m : Option MessageOf) (is_followed b : Bool) (replies : List Text) → IsMessageTaken holds old m mid replies → b ≡ is_time is_followed mid → b ≡ false → IsTurnOf holds old m is_followed replies mid
turn_untold holds old mid m is_followed b replies taken time no_ = record {
  mid = mid;
  answered = replies;
  taken = taken;
  told = [];
  telling = subst (λ (t : Bool). IsTelling t mid mid []) (sym no_ ∙ time) (refl, refl);
  replies_are = sym (append-nil replies);
}

-- one after which the client is told of its files
pub turn_told : (holds : Holds) (old mid : SessionOf) (m : Option MessageOf) (is_followed b : Bool) (before replies : List Text) (all : Vec Told) → IsMessageTaken holds old m mid before → b ≡ is_time is_followed mid → b ≡ true → IsToldOf (view_of mid) (map told_of all.items) → replies ≡ before ++ news mid.told (map told_of all.items) → IsTurnOf holds old m is_followed replies (told_after mid (Some all))
turn_told holds old mid m is_followed b before replies all taken time yes_ told is = record {
  mid = mid;
  answered = before;
  taken = taken;
  told = news mid.told (map told_of all.items);
  telling = subst (λ (t : Bool). IsTelling t mid (told_after mid (Some all)) (news mid.told (map told_of all.items))) (sym yes_ ∙ time) (map told_of all.items, told, refl, refl);
  replies_are = is;
}

-- ---- what is refused

pub refused_is : (s : SessionOf) (content : Text) (m : Option Message) (said : NotificationOf) → IsMessageOf content m → option_map message_view m ≡ Some (notification said) → s.phase ≡ Running → IsRefusedWhile s said → IsRefused s content
refused_is s content (Some m) said is view runs refused = record {
  message = m;
  is_message = is;
  said = said;
  notified = same_Some (message_view m) (notification said) view;
  running = runs;
  refused = refused;
}
refused_is s content None said is view runs refused = absurd (none-some (notification said) view)

-- ---- phases

-- a session in another phase does not run
pub no_time : (p : Phase) (w f : Bool) → (p ≡ Running → ⊥) → false ≡ is_running p && w && not f
no_time Fresh w f other = refl
no_time Running w f other = absurd (other refl)
no_time ShutDown w f other = refl
no_time Ended w f other = refl
no_time EndedEarly w f other = refl

-- one in another phase has no status of a session that has ended after `shutdown`
pub other_status : (p : Phase) → (p ≡ Ended → ⊥) → 1 ≡ status_of p
other_status Fresh other = refl
other_status Running other = refl
other_status ShutDown other = refl
other_status Ended other = absurd (other refl)
other_status EndedEarly other = refl
