-- What is written into an open database.
use Rattle.std.proofs.Common.{◌≡◌, refl, ℕ, true, List}
use Rattle.std.specs.Prelude.{Some}
use Rattle.pdb_values.specs.declared.resource.Resource.{Resource}
use Rattle.dlp_replies.specs.ReplyValues as reply
use Rattle.palm_device.specs.Blocks.{with_app, with_sort}
use Rattle.palm_device.specs.Devices.{Device, with_database}
use Rattle.palm_device.specs.Handles.{Base, base_at, is_writable}
use Rattle.palm_device.specs.Resources.{has_room, put_resource, with_resources}
use Rattle.dlp_commands.specs.DeviceSteps.{tried}
use Rattle.dlp_commands.specs.Holding.{on_resources}
use Rattle.dlp_commands.specs.Writings as writing
use Rattle.desktop_session.specs.Acts.{acted}
use Rattle.desktop_session.specs.Requests.{putting_resource, writing_app, writing_sort}
use Rattle.desktop_session.proofs.ChangeRows.{row_does}
use Rattle.desktop_session.proofs.RowLaws.{writes_row}

pub app_written : (device : Device) (handle : ℕ) (base : Base) (bytes : List ℕ) → base_at device handle ≡ Some base → is_writable base ≡ true
    → (acted (writing_app handle bytes) device).1 ≡ with_database device (with_app bytes base.database)
unfolding tried
app_written device handle base bytes is may =
    row_does (writing_app handle bytes) device (with_database device (with_app bytes base.database)) reply.WriteAppBlock
    (writes_row 0 device handle (writing.AppBlock bytes) base (with_app bytes base.database) reply.WriteAppBlock is may refl)

pub sort_written : (device : Device) (handle : ℕ) (base : Base) (bytes : List ℕ) → base_at device handle ≡ Some base → is_writable base ≡ true
    → (acted (writing_sort handle bytes) device).1 ≡ with_database device (with_sort bytes base.database)
unfolding tried
sort_written device handle base bytes is may =
    row_does (writing_sort handle bytes) device (with_database device (with_sort bytes base.database)) reply.WriteSortBlock
    (writes_row 0 device handle (writing.SortBlock bytes) base (with_sort bytes base.database) reply.WriteSortBlock is may refl)

pub resource_put : (device : Device) (handle : ℕ) (base : Base) (resource : Resource) → base_at device handle ≡ Some base → is_writable base ≡ true
    → on_resources base.database ≡ true → has_room resource.kind.0 resource.id base.database.resources ≡ true
    → (acted (putting_resource handle resource.kind.0 resource.id resource.bytes) device).1
    ≡ with_database device (with_resources (put_resource resource.kind.0 resource.id resource.bytes base.database.resources) base.database)
unfolding tried
resource_put device handle base resource is may holds room =
    let put = with_resources (put_resource resource.kind.0 resource.id resource.bytes base.database.resources) base.database in
    row_does (putting_resource handle resource.kind.0 resource.id resource.bytes) device (with_database device put) reply.WriteResource
    (writes_row 0 device handle (writing.WriteResource resource.kind.0 resource.id resource.bytes) base put reply.WriteResource is may
    (rw (holds, room) refl))
