-- What an installed database is, and what becomes of it once more.
use Rattle.std.proofs.lemmas.Bool.{or_from, or_parts}
use Rattle.std.proofs.lemmas.Bool.Decides.{nat_tests}
use Rattle.std.proofs.lemmas.Grind.{common_steps}
use Rattle.std.proofs.lemmas.Nat.{and_assoc, and_mod, and_le_l}
use Rattle.std.proofs.Common.{arith, ◌≡◌, ◌∙◌, ◌≤◌, ◌<◌, ◌%◌, ap, refl, sym, ℕ, ◌==◌, not, Bool, true, false, cond, List, [], ◌∷◌, length}
use Rattle.std.specs.Prelude.{Option, None, Some, bit_and}
use Rattle.std.specs.List.{AllByRecursion, list_any}
use Rattle.std.specs.Str.{bytes_eq}
use Rattle.pdb_values.specs.Blocks.{block_length}
use Rattle.pdb_values.specs.Databases.{DatabaseValue, IsShortResource}
use Rattle.pdb_values.specs.Heads.{holds_resources, is_read_only}
use Rattle.pdb_values.specs.NamedDatabases.{NamesRise, database_of, with_new, with_put, without_named}
use Rattle.pdb_values.specs.Resources.{with_bytes}
use Rattle.pdb_values.specs.declared.head.DbHead.{DbHead}
use Rattle.pdb_values.specs.declared.resource.Resource.{Resource}
use Rattle.pdb_values.proofs.NamedLaws.{All-AllByRecursion, NamesRise-with_new, NamesRise-with_put, NamesRise-without_named, bytes_eq-own}
use Rattle.pdb_values.proofs.NamedLaws.{database_of-same, database_of-with_new, database_of-with_put, database_of-without_named}
use Rattle.palm_device.specs.Bounds.{IsBoundedDatabase, IsBoundedHead, IsBoundedResource}
use Rattle.install_backup.specs.Installed.{AreApart, installed, installed_behind, installed_block, installed_head, last_bytes, same_key}
use Rattle.install_backup.proofs.RecordLaws.{installed-bounded, installed-few, installed_records-again, records-none}
use Rattle.install_backup.proofs.ResourceLaws.{same_key-turned}
use Rattle.handheld_files.proofs.BoundLaws.{resources_short}

-- ---- its place among others

pub with_new-without : (database : DatabaseValue) (databases : List DatabaseValue) → NamesRise databases
    → with_new database (without_named database.head.name databases) ≡ with_put database databases
with_new-without database databases rise =
    let name = database.head.name in
    let left = without_named name databases in
    let rise_left : NamesRise left = NamesRise-without_named name databases rise in
    let none : database_of name left ≡ None =
    database_of-without_named name name databases rise ∙ ap (λ b. cond b None (database_of name databases)) (bytes_eq-own name) in
    database_of-same (with_new database left) (with_put database databases) (NamesRise-with_new database left none rise_left)
    (NamesRise-with_put database databases rise) (λ other.
    database_of-with_new other database left none
    ∙ ap (λ (o : Option DatabaseValue). cond (bytes_eq name other) (Some database) o)
    (database_of-without_named other name databases rise)
    ∙ twice (bytes_eq name other) (Some database) None (database_of other databases)
    ∙ sym (database_of-with_put other database databases))
  where
    twice : (b : Bool) (x y z : Option DatabaseValue) → cond b x (cond b y z) ≡ cond b x z
    twice true x y z = refl
    twice false x y z = refl

-- ---- its head

odd_mask : (a : ℕ) → bit_and a 0x7fff % 2 ≡ a % 2
odd_mask a = and_mod a 0x7fff 1 ∙ one_bit (a % 2) (omega arith)
  where
    one_bit : (n : ℕ) → n < 2 → bit_and n 1 ≡ n
    one_bit n l = grind arith

pub holds-installed : (head : DbHead) → holds_resources (installed_head head).attributes ≡ holds_resources head.attributes
holds-installed head = ap (λ n. n == 1) (odd_mask head.attributes)

pub read_only-installed : (head : DbHead) → is_read_only (installed_head head).attributes ≡ is_read_only head.attributes
read_only-installed head = ap (λ n. not (n == 0)) (and_assoc 0x0002 head.attributes 0x7fff)

pub head-again : (head : DbHead) → installed_head (installed_head head) ≡ installed_head head
head-again head = ap (λ n. record (installed_head head) { attributes = n }) (and_assoc 0x7fff head.attributes 0x7fff)

pub head-bounded : (head : DbHead) → IsBoundedHead head → IsBoundedHead (installed_head head)
head-bounded head bounded =
    let less = and_le_l head.attributes 0x7fff in
    let small = bounded.attributes in
    record {
      name = bounded.name;
      attributes = omega (arith, less, small);
      version = bounded.version;
      created = omega arith;
      modified = omega arith;
      backup = omega arith;
      modnum = omega arith;
      seed = omega arith;
      kind = bounded.kind;
      creator = bounded.creator;
    }

-- ---- its blocks

block-again : (block : Option (List ℕ)) → installed_block (installed_block block) ≡ installed_block block
block-again None = refl
block-again (Some []) = refl
block-again (Some (byte ∷ bytes)) = refl

block-short : (block : Option (List ℕ)) → block_length block ≤ 65500 → block_length (installed_block block) ≤ 65500
block-short None short = short
block-short (Some []) short = short
block-short (Some (byte ∷ bytes)) short = short

-- ---- its resources

last_bytes-alone : (resource : Resource) (later : List Resource) → list_any (same_key resource) later ≡ false → last_bytes resource later ≡ resource.bytes
unfolding last_bytes
last_bytes-alone resource [] none = refl
last_bytes-alone resource (next ∷ later) none =
    let both = or_parts (same_key resource next) (list_any (same_key resource) later) none in
    rw both.0 (last_bytes-alone resource later both.1)

-- none of these has the type and id of one before
abbrev AreOthers : List Resource → List Resource → Type 0
AreOthers earlier resources = AllByRecursion (λ (resource : Resource). list_any (same_key resource) earlier ≡ false) resources

others_more : (first : Resource) (earlier later : List Resource) → list_any (same_key first) later ≡ false → AreOthers earlier later
    → AreOthers (first ∷ earlier) later
others_more first earlier [] none others = tt
others_more first earlier (next ∷ later) none others =
    let both = or_parts (same_key first next) (list_any (same_key first) later) none in (
      or_from (same_key next first) (list_any (same_key next) earlier) (same_key-turned next first ∙ both.0) others.0,
      others_more first earlier later both.1 others.1,
    )

installed_behind-own : (earlier resources : List Resource) → AreOthers earlier resources → AreApart resources
    → installed_behind earlier resources ≡ resources
unfolding installed_behind
installed_behind-own earlier [] others apart = refl
installed_behind-own earlier (resource ∷ later) others apart =
    rw others.0 (ap (λ (rs : List Resource). with_bytes (last_bytes resource later) resource ∷ rs)
    (installed_behind-own (resource ∷ earlier) later (others_more resource earlier later apart.0 others.1) apart.1)
    ∙ ap (λ (bytes : List ℕ). with_bytes bytes resource ∷ later) (last_bytes-alone resource later apart.0))

no_others : (resources : List Resource) → AreOthers [] resources
no_others [] = tt
no_others (resource ∷ later) = (refl, no_others later)

-- resources of which no two share type and id are installed as they are
pub resources-own : (resources : List Resource) → AreApart resources → installed_behind [] resources ≡ resources
resources-own resources apart = installed_behind-own [] resources (no_others resources) apart

record Fine (earlier resources : List Resource) : Type 0 where
  apart : AreApart resources
  others : AreOthers earlier resources

-- those that differ from the first one and from those before differ from each of both
first_other : (first : Resource) (earlier resources : List Resource) → AreOthers (first ∷ earlier) resources → list_any (same_key first) resources ≡ false
first_other first earlier [] others = refl
first_other first earlier (next ∷ resources) others =
    let both = or_parts (same_key next first) (list_any (same_key next) earlier) others.0 in
    or_from (same_key first next) (list_any (same_key first) resources) (same_key-turned first next ∙ both.0)
    (first_other first earlier resources others.1)

others_less : (first : Resource) (earlier resources : List Resource) → AreOthers (first ∷ earlier) resources → AreOthers earlier resources
others_less first earlier [] others = tt
others_less first earlier (next ∷ resources) others =
    ((or_parts (same_key next first) (list_any (same_key next) earlier) others.0).1, others_less first earlier resources others.1)

behind_fine : (earlier resources : List Resource) → Fine earlier (installed_behind earlier resources)
unfolding installed_behind
behind_fine earlier [] = record { apart = tt; others = tt }
behind_fine earlier (resource ∷ later) =
    by (list_any (same_key resource) earlier) refl (behind_fine earlier later) (behind_fine (resource ∷ earlier) later)
  where
    by : (b : Bool) → list_any (same_key resource) earlier ≡ b → Fine earlier (installed_behind earlier later)
        → Fine (resource ∷ earlier) (installed_behind (resource ∷ earlier) later)
        → Fine earlier (cond b (installed_behind earlier later) (with_bytes (last_bytes resource later) resource ∷ installed_behind (resource ∷ earlier) later))
    by true is rest own = rest
    by false is rest own =
        let more = installed_behind (resource ∷ earlier) later in
        record { apart = (first_other resource earlier more own.others, own.apart); others = (is, others_less resource earlier more own.others) }

pub installed-apart : (resources : List Resource) → AreApart (installed_behind [] resources)
installed-apart resources = (behind_fine [] resources).apart

behind-few : (earlier resources : List Resource) → length (installed_behind earlier resources) ≤ length resources
unfolding installed_behind
behind-few earlier [] = omega arith
behind-few earlier (resource ∷ later) =
    grind (arith, common_steps, nat_tests, behind-few earlier later, behind-few (resource ∷ earlier) later)

-- what is installed keeps the bounds
last-bounded : (resource : Resource) (later : List Resource) → IsBoundedResource resource → AllByRecursion IsBoundedResource later
    → length (last_bytes resource later) ≤ 65500
unfolding last_bytes
last-bounded resource [] own all = own.short
last-bounded resource (next ∷ later) own all =
    by (same_key resource next) (last-bounded next later all.0 all.1) (last-bounded resource later own all.1)
  where
    by : (b : Bool) → length (last_bytes next later) ≤ 65500 → length (last_bytes resource later) ≤ 65500
        → length (cond b (last_bytes next later) (last_bytes resource later)) ≤ 65500
    by true one two = one
    by false one two = two

behind-bounded : (earlier resources : List Resource) → AllByRecursion IsBoundedResource resources
    → AllByRecursion IsBoundedResource (installed_behind earlier resources)
unfolding installed_behind
behind-bounded earlier [] all = tt
behind-bounded earlier (resource ∷ later) all =
    by (list_any (same_key resource) earlier) (behind-bounded earlier later all.1) (behind-bounded (resource ∷ earlier) later all.1)
  where
    by : (b : Bool) → AllByRecursion IsBoundedResource (installed_behind earlier later)
        → AllByRecursion IsBoundedResource (installed_behind (resource ∷ earlier) later)
        → AllByRecursion IsBoundedResource
        (cond b (installed_behind earlier later) (with_bytes (last_bytes resource later) resource ∷ installed_behind (resource ∷ earlier) later))
    by true rest own = rest
    by false rest own = (record { kind = all.0.kind; id = all.0.id; short = last-bounded resource later all.0 all.1 }, own)

-- ---- the whole

pub resources-none : (resources : List Resource) → resources ≡ [] → installed_behind [] resources ≡ []
unfolding installed_behind
resources-none resources none = rw none refl

pub installed-whole : (database : DatabaseValue) → IsBoundedDatabase database → IsBoundedDatabase (installed database)
unfolding installed
installed-whole database bounded =
    let whole = bounded.whole in
    let resources = behind-bounded [] database.resources bounded.resources in
    let few = installed-few database.records in
    let fewer = behind-few [] database.resources in
    let many = whole.few_records in
    let more = whole.few_resources in
    let holds = holds-installed database.head in
    record {
      whole = record {
        few_records = omega (arith, few, many);
        few_resources = omega (arith, fewer, more);
        no_records = λ is. records-none database.records (whole.no_records (sym holds ∙ is));
        no_resources = λ is. resources-none database.resources (whole.no_resources (sym holds ∙ is));
        short_app = block-short database.app whole.short_app;
        short_sort = block-short database.sort whole.short_sort;
        short_resources = All-AllByRecursion IsShortResource (installed_behind [] database.resources)
            (resources_short (installed_behind [] database.resources) resources);
      };
      head = head-bounded database.head bounded.head;
      records = installed-bounded database.records whole.few_records bounded.records;
      resources = resources;
    }

pub installed-again : (database : DatabaseValue) → installed (installed database) ≡ installed database
unfolding installed
installed-again database = λ k. record {
  head = head-again database.head k;
  app = block-again database.app k;
  sort = block-again database.sort k;
  records = installed_records-again database.records k;
  resources = resources-own (installed_behind [] database.resources) (installed-apart database.resources) k;
}
