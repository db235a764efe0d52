use Rattle.std.proofs.Common.{◌≡◌, ◌∙◌, List, [], ap, refl, rules, subst, ℕ}
use Rattle.hs_folders.specs.declared.mem_folder.MemFolder.{MemFolder}
use Rattle.handheld_files.specs.Openings.{opened_device}
use Rattle.handheld_server.specs.Servers.{ServerValue}
use Rattle.device_stream.specs.Hands.{Hand, woken}
use Rattle.device_stream.specs.Talks.{TalkValue}
use Rattle.device_state.specs.States.{IsState}
use Rattle.device_state.proofs.calls.new_state.Goals as goal

pub returns-clause-begins : goal.returns-clause-begins
returns-clause-begins c =
    let list = c.in_ok-store.ensures.opened in
    let store = c.in_ok-store.store in
    let step = c.in_ok-step_of.field-0 in
    let hand : c.in-Ok.talk.hand ≡ woken (opened_device store.databases store.user) =
    ap (λ (t : TalkValue MemFolder). t.hand) c.in-Ok.ensures.talk ∙ ap (λ (s : ServerValue MemFolder). woken s.device) c.new.ensures in
    record {
      files = list.files;
      are_files = list.are_files;
      list_is = list.is;
      device = opened_device store.databases store.user;
      stands = list.stands;
      closed = refl;
      is = subst (λ (h : Hand). IsState step.state.items h []) hand
          (subst (λ (l : List ℕ). IsState step.state.items c.in-Ok.talk.hand l) c.new-3.ensures.items c.in_ok-step_of.ensures.state);
      said_is = search rules;
    }
