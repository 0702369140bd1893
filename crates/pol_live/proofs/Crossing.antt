-- Charts may go to other threads, and be read there.
use denote.RattleType.{RattleType}
use denote.Hole.{as_row}
use denote.Hole.FixSend.{Crosses, both_send, both_sync}
use denote.Struct.Field.{bool-field, row_field, u16-field}
use denote.Param.Send.{IsSend, IsSync, plain_send, plain_sync, sendable}
use denote.Param.SendFields.{as_row_send, as_row_sync, declared_send, declared_sync, variants_send, variants_sync}
use Rattle.std.proofs.Crossing as heap
use Rattle.mtp_codes.specs.contracts.name.Name as name
use Rattle.mtp_codes.specs.contracts.value.Reading as reading
use Rattle.mtp_codes.specs.contracts.value.Setting as setting
use Rattle.chart_core.specs.contracts.chart.Chart as chart
use Rattle.chart_core.specs.contracts.condition.Condition as condition
use Rattle.chart_core.specs.contracts.condition.Condition.TheKnot as conditions
use Rattle.chart_core.specs.contracts.condition.Op as op
use Rattle.chart_core.specs.contracts.node.Arm as arm
use Rattle.chart_core.specs.contracts.node.Node as node
use Rattle.chart_core.specs.contracts.node.Node.TheKnot as nodes
use Rattle.chart_core.specs.contracts.node.Step as step
use Rattle.chart_core.specs.contracts.role.Role as role

-- ---- plain parts

-- a name may go to another thread
pub name_send : IsSend name.the_row
name_send = search (sendable, heap.crosses) depth 20

-- a name may be read by other threads
name_sync : IsSync name.the_row
name_sync = search (sendable, heap.crosses) depth 20

-- the comparison of a test may go to another thread
op_send : IsSend op.the_row
op_send = search (sendable, heap.crosses) depth 20

-- the comparison of a test may be read by other threads
op_sync : IsSync op.the_row
op_sync = search (sendable, heap.crosses) depth 20

-- a reading may go to another thread
reading_send : IsSend reading.the_row
reading_send = search (sendable, heap.crosses) depth 20

-- a reading may be read by other threads
reading_sync : IsSync reading.the_row
reading_sync = search (sendable, heap.crosses) depth 20

-- a setting may go to another thread
setting_send : IsSend setting.the_row
setting_send = search (sendable, heap.crosses) depth 20

-- a setting may be read by other threads
setting_sync : IsSync setting.the_row
setting_sync = search (sendable, heap.crosses) depth 20

-- a role may go to another thread
role_send : IsSend role.the_row
role_send = search (sendable, heap.crosses) depth 40 fits 100000

-- a role may be read by other threads
role_sync : IsSync role.the_row
role_sync = search (sendable, heap.crosses) depth 40 fits 100000

-- a field that is true or false may go to another thread
bool_send : IsSend (as_row bool-field)
bool_send = as_row_send bool-field (plain_send _ _ _ _ _)

-- a field that is true or false may be read by other threads
bool_sync : IsSync (as_row bool-field)
bool_sync = as_row_sync bool-field (plain_sync _ _ _ _ _)

-- a field that is a number of two bytes may go to another thread
number_send : IsSend (as_row u16-field)
number_send = as_row_send u16-field (plain_send _ _ _ _ _)

-- a field that is a number of two bytes may be read by other threads
number_sync : IsSync (as_row u16-field)
number_sync = as_row_sync u16-field (plain_sync _ _ _ _ _)

-- ---- conditions

-- one layer of a condition may go to another thread, where the conditions in it may
condition_layer_send : (h : RattleType) → IsSend h → IsSend (conditions.layer-Condition h h h)
condition_layer_send h one =
    let many = as_row_send (row_field _) (heap.Vec-send h one) in
    let named = as_row_send (row_field _) name_send in
    variants_send (conditions.type-Condition h h h) (
      (as_row_send (row_field _) bool_send, tt),
      (
        (many, tt),
        (
          (many, tt),
          (
            (as_row_send (row_field _) (heap.Box-send h one), tt),
            (
              (
                named,
                (
                  named,
                  (
                    as_row_send (row_field _) op_send,
                    (as_row_send (row_field _) reading_send, tt),
                  ),
                ),
              ),
              tt,
            ),
          ),
        ),
      ),
    )

-- one layer of a condition may be read by other threads, where the conditions in it may
condition_layer_sync : (h : RattleType) → IsSync h → IsSync (conditions.layer-Condition h h h)
condition_layer_sync h one =
    let many = as_row_sync (row_field _) (heap.Vec-sync h one) in
    let named = as_row_sync (row_field _) name_sync in
    variants_sync (conditions.type-Condition h h h) (
      (as_row_sync (row_field _) bool_sync, tt),
      (
        (many, tt),
        (
          (many, tt),
          (
            (as_row_sync (row_field _) (heap.Box-sync h one), tt),
            (
              (
                named,
                (
                  named,
                  (
                    as_row_sync (row_field _) op_sync,
                    (as_row_sync (row_field _) reading_sync, tt),
                  ),
                ),
              ),
              tt,
            ),
          ),
        ),
      ),
    )

-- a layer of conditions may go to other threads and be read there, where those in it may
each_condition : (member : conditions.the_members) → Crosses conditions.ring member
each_condition =
    condition.by_members (Crosses conditions.ring) record {
      send = λ h s y. condition_layer_send (h conditions.member-Condition) (s conditions.member-Condition);
      sync = λ h s y. condition_layer_sync (h conditions.member-Condition) (y conditions.member-Condition);
    }

-- a condition may go to another thread
condition_send : IsSend condition.the_row
condition_send =
    let inner = both_send conditions.ring each_condition conditions.member-Condition in
    let many = as_row_send (row_field _) (heap.Vec-send condition.the_hole inner) in
    variants_send condition.enum (
      (bool_send, tt),
      (
        (many, tt),
        (
          (many, tt),
          (
            (heap.Box-send condition.the_hole inner, tt),
            ((name_send, (name_send, (op_send, (reading_send, tt)))), tt),
          ),
        ),
      ),
    )

-- a condition may be read by other threads
condition_sync : IsSync condition.the_row
condition_sync =
    let inner = both_sync conditions.ring each_condition conditions.member-Condition in
    let many = as_row_sync (row_field _) (heap.Vec-sync condition.the_hole inner) in
    variants_sync condition.enum (
      (bool_sync, tt),
      (
        (many, tt),
        (
          (many, tt),
          (
            (heap.Box-sync condition.the_hole inner, tt),
            ((name_sync, (name_sync, (op_sync, (reading_sync, tt)))), tt),
          ),
        ),
      ),
    )

-- ---- nodes

-- a step may go to another thread
step_send : IsSend step.the_row
step_send = search (sendable, heap.crosses, condition_send) depth 40 fits 100000

-- a step may be read by other threads
step_sync : IsSync step.the_row
step_sync = search (sendable, heap.crosses, condition_sync) depth 40 fits 100000

-- one layer of a node may go to another thread, where the nodes and arms in it may
node_layer_send : (h a : RattleType) → IsSend h → IsSend a → IsSend (nodes.layer-Node h h a h)
node_layer_send h a one two =
    let many = as_row_send (row_field _) (heap.Vec-send h one) in
    variants_send (nodes.type-Node h h a h) (
      (as_row_send (row_field _) step_send, tt),
      (
        (many, tt),
        (
          (many, tt),
          (
            (as_row_send (row_field _) (heap.Vec-send a two), tt),
            ((as_row_send (row_field _) (heap.Box-send h one), (as_row_send (row_field _) condition_send, tt)), tt),
          ),
        ),
      ),
    )

-- one layer of a node may be read by other threads, where the nodes and arms in it may
node_layer_sync : (h a : RattleType) → IsSync h → IsSync a → IsSync (nodes.layer-Node h h a h)
node_layer_sync h a one two =
    let many = as_row_sync (row_field _) (heap.Vec-sync h one) in
    variants_sync (nodes.type-Node h h a h) (
      (as_row_sync (row_field _) step_sync, tt),
      (
        (many, tt),
        (
          (many, tt),
          (
            (as_row_sync (row_field _) (heap.Vec-sync a two), tt),
            ((as_row_sync (row_field _) (heap.Box-sync h one), (as_row_sync (row_field _) condition_sync, tt)), tt),
          ),
        ),
      ),
    )

-- one layer of an arm may go to another thread, where the node in it may
arm_layer_send : (h : RattleType) → IsSend h → IsSend (nodes.layer-Arm h)
arm_layer_send h one =
    declared_send (nodes.type-Arm h)
    (as_row_send (row_field _) condition_send, (as_row_send (row_field _) one, tt))

-- one layer of an arm may be read by other threads, where the node in it may
arm_layer_sync : (h : RattleType) → IsSync h → IsSync (nodes.layer-Arm h)
arm_layer_sync h one =
    declared_sync (nodes.type-Arm h)
    (as_row_sync (row_field _) condition_sync, (as_row_sync (row_field _) one, tt))

-- a layer of nodes or arms may go to other threads and be read there, where those in it may
each_node : (member : nodes.the_members) → Crosses nodes.ring member
each_node =
    node.by_members (Crosses nodes.ring)
    record {
      send = λ h s y. node_layer_send (h nodes.member-Node) (h nodes.member-Arm) (s nodes.member-Node)
          (s nodes.member-Arm);
      sync = λ h s y. node_layer_sync (h nodes.member-Node) (h nodes.member-Arm) (y nodes.member-Node)
          (y nodes.member-Arm);
    }
    record {
      send = λ h s y. arm_layer_send (h nodes.member-Node) (s nodes.member-Node);
      sync = λ h s y. arm_layer_sync (h nodes.member-Node) (y nodes.member-Node);
    }

-- a node may go to another thread
node_send : IsSend node.the_row
node_send =
    let inner = both_send nodes.ring each_node nodes.member-Node in
    let many = as_row_send (row_field _) (heap.Vec-send node.the_hole inner) in
    let arms = heap.Vec-send arm.the_hole (both_send nodes.ring each_node nodes.member-Arm) in
    variants_send node.enum (
      (step_send, tt),
      (
        (many, tt),
        (
          (many, tt),
          (
            (as_row_send (row_field _) arms, tt),
            ((heap.Box-send node.the_hole inner, (condition_send, tt)), tt),
          ),
        ),
      ),
    )

-- a node may be read by other threads
node_sync : IsSync node.the_row
node_sync =
    let inner = both_sync nodes.ring each_node nodes.member-Node in
    let many = as_row_sync (row_field _) (heap.Vec-sync node.the_hole inner) in
    let arms = heap.Vec-sync arm.the_hole (both_sync nodes.ring each_node nodes.member-Arm) in
    variants_sync node.enum (
      (step_sync, tt),
      (
        (many, tt),
        (
          (many, tt),
          (
            (as_row_sync (row_field _) arms, tt),
            ((heap.Box-sync node.the_hole inner, (condition_sync, tt)), tt),
          ),
        ),
      ),
    )

-- ---- charts

-- a chart may go to another thread
pub chart_send : IsSend chart.the_row
chart_send = declared_send chart.the_type (heap.Vec-send role.the_row role_send, (node_send, tt))

-- a chart may be read by other threads
pub chart_sync : IsSync chart.the_row
chart_sync = declared_sync chart.the_type (heap.Vec-sync role.the_row role_sync, (node_sync, tt))
