use Rattle.std.proofs.Common.{rules, ◌≡◌, ◌∙◌, sym, length, refl, slice_get, Some, ap}
use Rattle.std.specs.Str.{bytes_eq}
use Rattle.std.proofs.lemmas.Option.{slice_get_read}
use Rattle.pdb_values.proofs.NamedLaws.{bytes_eq-is, bytes_eq-own}
use Rattle.palm_device.specs.Resources.{place_of_resource}
use Rattle.palm_device.proofs.TellingLaws.{put_resource_longer, put_resource_own, put_resource_same}
use Rattle.palm_device.proofs.resource.is_there.Goals as goal

pub returns-in-Some : goal.returns-in-Some
returns-in-Some c =
    let items = c.args.items.now in
    let there = c.index-items-place.result in
    let found : place_of_resource c.args.kind.0 c.args.id items ≡ Some c.in-Some.place = sym c.place_of_resource.ensures.place ∙ c.in-Some.is in
    let here : slice_get items c.in-Some.place ≡ Some there =
    slice_get_read items (length items) c.in-Some.place there refl (search rules) c.index-items-place.is in
    let told : c.eq.result ≡ bytes_eq there.bytes c.args.bytes.now = search rules in (
      λ e. put_resource_same c.args.kind.0 c.args.id items found here
          (bytes_eq-is there.bytes c.args.bytes.now (sym told ∙ e)),
      λ same. told ∙ ap (bytes_eq there.bytes)
          (sym (put_resource_own c.args.kind.0 c.args.id c.args.bytes.now found here same)) ∙ bytes_eq-own there.bytes,
    )

pub returns-in-None : goal.returns-in-None
returns-in-None c = (
  λ e. absurd cc,
  λ same.
      absurd (put_resource_longer c.args.kind.0 c.args.id c.args.bytes.now (sym c.place_of_resource.ensures.place
      ∙ c.in-None.is) same),
)
