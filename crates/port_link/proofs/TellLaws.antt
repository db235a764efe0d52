-- What was kept and written, one part after the other.
use Rattle.std.proofs.Common.{◌≡◌, ℕ, ◌+◌, List, [], ◌++◌, length, take, refl, sym, ap, subst, ◌∙◌}
use Rattle.std.specs.Prelude.{Option, Some, None}
use Rattle.std.specs.Option.{option_map}
use Rattle.std.proofs.Math.Seq.{take-append-add}
use Rattle.std.proofs.lemmas.Grind.{flat_map-append}
use Rattle.std.proofs.lemmas.List.{append-nil, append_assoc}
use Rattle.hs_folders.proofs.Prefixes.{none_taken}
use Rattle.hs_folders.specs.Appends.{AppendsPrefix}
use Rattle.port_line.specs.declared.port_fault.PortFault.{PortFault}
use Rattle.port_line.specs.declared.port_fault.PortFault.TheVariants.{Failed, NoMemory}
use Rattle.port_link.specs.Courses.{Keeps, Takes, Tells}
use Rattle.port_link.specs.Logs.{EntryValue, spoken, spoken_at}
use Rattle.device_stream.proofs.CourseLaws.{prefix-behind}

pub written-none : {X : Type 0} (told : Option (List X)) → told ≡ option_map (λ taken. taken ++ []) told
written-none None = refl
written-none (Some taken) = ap Some (sym (append-nil taken))

pub written-then : {X : Type 0} (told : Option (List X)) {mid later : Option (List X)} (a b : List X) → mid ≡ option_map (λ taken. taken ++ a) told
    → later ≡ option_map (λ taken. taken ++ b) mid → later ≡ option_map (λ taken. taken ++ (a ++ b)) told
written-then None a b first next = next ∙ ap (option_map (λ taken. taken ++ b)) first
written-then (Some taken) a b first next =
    next ∙ ap (option_map (λ taken. taken ++ b)) first ∙ ap Some (append_assoc taken a b)

keeps-then : (fault : Option PortFault) (log : List EntryValue) {mid : List EntryValue} (later es fs : List EntryValue) → mid ≡ log ++ es
    → Keeps fault mid later fs → Keeps fault log later (es ++ fs)
keeps-then None log later es fs first next = next ∙ ap (λ (l : List EntryValue). l ++ fs) first ∙ append_assoc log es fs
keeps-then (Some Failed) log later es fs first next = next ∙ ap (λ (l : List EntryValue). l ++ fs) first ∙ append_assoc log es fs
keeps-then (Some NoMemory) log later es fs first next = (
  length es + next.0,
  next.1 ∙ ap (λ (l : List EntryValue). l ++ take next.0 fs) first ∙ append_assoc log es (take next.0 fs)
      ∙ ap (λ (l : List EntryValue). log ++ l) (sym (take-append-add es fs next.0)),
)

takes-then : (fault : Option PortFault) (told : Option (List ℕ)) {mid : Option (List ℕ)} (later : Option (List ℕ)) (a b : List ℕ) → mid ≡ option_map (λ taken. taken ++ a) told
    → Takes fault mid later b → Takes fault told later (a ++ b)
takes-then None told later a b first next = written-then told a b first next
takes-then (Some fault) told later a b first next = prefix-behind told a b first next

pub tells-then : {fault : Option PortFault} {t u v : Option (List ℕ)} {l m n es fs : List EntryValue} → Tells None t u l m es → Tells fault u v m n fs
    → Tells fault t v l n (es ++ fs)
tells-then {fault} {t} {u} {v} {l} {m} {n} {es} {fs} first next = record {
  keeps = keeps-then fault l n es fs first.keeps next.keeps;
  takes = subst (λ (s : List ℕ). Takes fault t v s) (sym (flat_map-append spoken_at es fs)) (takes-then fault t v (spoken es) (spoken fs) first.takes next.takes);
}

-- nothing
pub tells-nothing : (t : Option (List ℕ)) (l : List EntryValue) → Tells None t t l l []
tells-nothing t l = record { keeps = sym (append-nil l); takes = written-none t }

-- what came was kept, and nothing is said in it
pub tells-kept : (t : Option (List ℕ)) {l m : List EntryValue} (es : List EntryValue) → spoken es ≡ [] → m ≡ l ++ es → Tells None t t l m es
tells-kept t es none kept = record {
  keeps = kept;
  takes = written-none t ∙ ap (λ (s : List ℕ). option_map (λ taken. taken ++ s) t) (sym none);
}

-- it wasn't, for want of memory
pub tells-unkept : (t : Option (List ℕ)) {l m : List EntryValue} (es : List EntryValue) → m ≡ l → Tells (Some NoMemory) t t l m es
tells-unkept t {l} es stays = record { keeps = (0, stays ∙ sym (append-nil l)); takes = none_taken t (spoken es) }

-- nothing was to be kept
pub tells-failed : (fault : PortFault) (t : Option (List ℕ)) {u : Option (List ℕ)} (l : List EntryValue) → u ≡ t → Tells (Some fault) t u l l []
tells-failed fault t l same = record {
  keeps = keeps fault;
  takes = subst (λ (u : Option (List ℕ)). AppendsPrefix t u []) (sym same) (none_taken t []);
} where
  keeps : (fault : PortFault) → Keeps (Some fault) l l []
  keeps Failed = sym (append-nil l)
  keeps NoMemory = (0, sym (append-nil l))
